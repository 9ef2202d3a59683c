use Rattle.std.proofs.Common.{refl, rules}
use Rattle.xns_c.specs.Handle.{kept_endpoint_of}
use Rattle.xns_c.proofs.Kept.{taken}
use Rattle.xns_c.proofs.endpoint.xns_endpoint_receive.Goals as goal

pub returns-in-Err : goal.returns-in-Err
returns-in-Err c = record {
  stands = search rules;
  told = search rules;
  memory = λ s keeps _ _.
      (refl, c.in-Err.ensures.memory s (taken (kept_endpoint_of c.args.handle.now) c.in-Some.connection.value c.deref_mut.result.now s c.in-Some.ensures.answer c.deref_mut.ensures.value keeps));
  same = search rules;
  room = search rules;
}

pub returns-in-Ok : goal.returns-in-Ok
returns-in-Ok c = record {
  stands = search rules steps 2000000;
  told = λ s keeps _.
      record { took = search rules; acknowledged = search rules steps 2000000; dropped = search rules; reply = search rules steps 2000000 };
  memory = search rules;
  same = search rules;
  room = search rules;
}
