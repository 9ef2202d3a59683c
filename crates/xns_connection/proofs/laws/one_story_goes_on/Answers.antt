use Rattle.xns_connection.proofs.Lives.{told_at_first, acts_on, hears_on}
use Rattle.xns_connection.proofs.laws.one_story_goes_on.Goals as goal

pub returns : goal.returns
returns c = record { opens = told_at_first; acts = acts_on; hears = hears_on }
