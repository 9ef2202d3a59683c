use Rattle.std.proofs.Common.{◌≡◌, Option, Some, subst, refl}
use Rattle.courier_calls.specs.Server.{server_state}
use Rattle.xns_spp.specs.Sending.{is_full}
use Rattle.xns_spp.specs.declared.item.Item.{Item}
use Rattle.xns_world.proofs.ServeBounds.{Within, handed_items, steps_within, settles_within, hears_all_within, still_handed, kept_ending, out_first}
use Rattle.xns_world.specs.Serve.{serve, serve_start, serve_settles}
use Rattle.xns_world.specs.Settling.{handed_up_by, end_step_with}
use Rattle.xns_world.proofs.laws.serving.served_ends_stay_within_bounds.Goals as goal

pub returns : goal.returns
returns g c = record {
  ends = λ s setup packets can fits good bytes.
      let serving = g.S.Service.serving in
      let bounds = c.bounds_hold_after_each_step.ensures in
      let answering = c.server_laws_are_given.ensures s can in
      let brings = c.an_item_brings_at_most_one_answer.ensures s can in
      let w = serve_start setup in
      let start : Within serving s w.end = record {
        fits = bounds.responder setup.b setup.a setup.b_id setup.a_id setup.window setup.backlog fits.b fits.a good.b_id fits.b_id good.a_id fits.a_id good.window_least good.window_most good.backlog_least good.backlog_most;
        out = out_first serving s w.end refl refl;
      } in
      let v = (serve serving s setup packets).end in
      let within = hears_all_within serving s (serve_settles serving s w) packets answering brings (settles_within serving s w answering brings start) bytes in
      record {
        end = within.fits;
        kept = λ p is. c.what_is_kept_is_bounded.ensures (handed_up_by v) p (kept_ending (handed_up_by v) p is);
        answer = λ transaction call words. c.answers_are_short.ensures (server_state serving s (handed_up_by v)) transaction call (c.service_stays_in_its_states.ensures.items s (handed_up_by v) can (handed_items v within.fits)) words;
        alone = λ x u is step. still_handed answering.ends v u x (is_full v) (subst (λ (o : Option Item). end_step_with v o ≡ Some u) is step);
        out = within.out;
      };
  settling = λ s v n can fits out.
      let k = steps_within g.S.Service.serving s v n (c.server_laws_are_given.ensures s can) (c.an_item_brings_at_most_one_answer.ensures s can) (record { fits = fits; out = out }) in
      (k.fits, k.out);
}
