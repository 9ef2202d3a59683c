use Rattle.xns_world.proofs.serve.ServePlay.into_trace.Goals as goal

pub returns : goal.returns
returns g c s w h = record {
  handed = h.b.listed;
  carried = h.b.hearing.carried;
  fault = h.b.hearing.fault;
  replies = h.replies;
  service = c.into_service.ensures.stands _ h.b.hearing.session;
}
