use Rattle.host_world.proofs.laws.meeting_laws_are_given.Goals as goal

pub returns : goal.returns
returns c =
    let stories = c.one_story_goes_on.ensures in
    record {
      ends = c.end_laws_are_given.ensures;
      order = c.each_step_keeps_the_order.ensures;
      onward = c.no_world_is_stuck.ensures;
      stories = record { opens = stories.opens; acts = stories.acts; hears = stories.hears; agree = c.two_programs_agree.ensures };
    }
