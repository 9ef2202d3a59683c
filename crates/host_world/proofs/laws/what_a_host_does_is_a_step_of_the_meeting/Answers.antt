use Rattle.host_world.proofs.Guests.{acts, announced, answers, calls, closes, gives, hands, hears_it, not_served, tells}
use Rattle.host_world.proofs.laws.what_a_host_does_is_a_step_of_the_meeting.Goals as goal

pub returns : goal.returns
returns c =
    let law = c.a_step_keeps_its_promises.ensures in
    record {
      calls = λ now k g h s. calls now k g h law s;
      answers = λ now kind k words g h s asked. answers now kind k words g h law s asked;
      closes = λ now g h s. closes now g h law s;
      hands = λ now m g h t is. hands now m g h law t is;
      tells = tells;
      announces = announced;
      acts = acts;
      not_served = not_served;
      gives = λ now result g h s. gives now result g h law s;
      hears = λ now bytes confirming g h s. hears_it now bytes confirming g h law s;
    }
