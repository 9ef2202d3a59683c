-- The trace that a play of items returns.
use Rattle.item_world.specs.declared.item_trace.ItemTrace.{ItemTrace}
use Rattle.item_world.specs.declared.side.Side.TheVariants.{A, B}
use Rattle.item_world.specs.World.{World, sent_at, handed_at, sent_packets}

abbrev pub item_trace : World → ItemTrace
item_trace w = record {
  a_sent = sent_at w A;
  b_sent = sent_at w B;
  a_handed = handed_at w A;
  b_handed = handed_at w B;
  bag = sent_packets w;
}
