use Rattle.xns_spp.proofs.Asking.{flush_alone, tick_alone, resend_alone}
use Rattle.xns_spp.proofs.laws.what_goes_out_changes_what_was_sent_alone.Goals as goal

pub returns : goal.returns
returns c = record { flush = flush_alone; tick = tick_alone; resend = resend_alone }
