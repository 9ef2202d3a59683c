use Rattle.std.proofs.Common.{◌∙◌, ap}
use Rattle.xns_lines.specs.Report.{ReportModel}
use Rattle.xns_sim.proofs.Played.{play_said, refusal_said, said_alone}
use Rattle.xns_sim.proofs.playing.play_script.Goals as goal
use Rattle.xns_sim.proofs.playing.play_script.Goals.{in-Some+in_ok-append_refusal-in-Some, in-None+in_ok-append_play-in-None}

pub returns : goal.returns
returns c = λ lines h. elim c.match-refused.branch [
  | in-Some+in_ok-append_refusal-in-Some w ↦
      let said = w.in_ok-append_refusal-in-Some.ensures in
      refusal_said c.args.script.now lines c.refused.result w.in-Some.number _ c.new-text.result.line c.refused.ensures w.in-Some.is c.new-text.ensures.line
      (said_alone c.match-refused.text c.new-text.result _ c.new-text.ensures.front (ap (λ (v : ReportModel). v.front) w.text-is ∙ said.front) (ap (λ (v : ReportModel). v.line) w.text-is ∙ said.line)) h
  | in-None+in_ok-append_play-in-None w ↦
      let said = w.in_ok-append_play-in-None.ensures in
      play_said c.args.script.now lines c.refused.result w.calls.result.now w.events.result.now _ c.new-text.result.line c.refused.ensures w.in-None.is c.new-text.ensures.line
      w.calls.ensures.value w.events.ensures
      (said_alone c.match-refused.text c.new-text.result _ c.new-text.ensures.front (ap (λ (v : ReportModel). v.front) w.text-is ∙ said.front) (ap (λ (v : ReportModel). v.line) w.text-is ∙ said.line)) h
]
