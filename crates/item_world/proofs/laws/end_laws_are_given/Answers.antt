use Rattle.item_world.proofs.laws.end_laws_are_given.Goals as goal

pub returns : goal.returns
returns c = record {
  numbers = c.nearest_number_is_read_back.ensures;
  written = c.written_packet_is_read_again.ensures;
  packets = c.own_packets_are_packets.ensures;
  says = c.own_packets_say_what_is_meant.ensures;
  room = c.room_is_near_what_was_taken.ensures;
  fresh = c.new_ends_are_fresh.ensures;
  bounds = c.bounds_hold_after_each_step.ensures;
  grows = c.an_end_only_grows.ensures;
  stays = c.other_steps_accept_and_hand_up_nothing.ensures;
  hears = c.other_steps_hear_nothing.ensures;
  accepts = c.items_are_accepted_or_change_nothing.ensures;
  hands_up = c.the_next_item_is_handed_up.ensures;
  goes_out = c.accepted_items_go_out.ensures;
  comes_in = c.items_are_taken_from_the_next_number_on.ensures;
  acknowledges = c.packets_acknowledge_what_they_say.ensures;
  foreign = c.foreign_bytes_change_nothing.ensures;
  first_again = c.the_first_item_goes_out_again.ensures;
  peers = c.packets_of_the_peer_are_ours.ensures;
  counts = c.a_packet_that_is_heard_counts.ensures;
  asks = c.a_tick_asks_until_all_is_acknowledged.ensures;
  alone = c.what_goes_out_changes_what_was_sent_alone.ensures;
  learns = c.an_end_learns_where_a_packet_comes_from.ensures;
  known = c.open_ends_learn_nothing.ensures;
}
