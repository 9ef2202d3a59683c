-- A call that the program makes, by its words.
use Rattle.courier_messages.specs.RawCalls.{RawCall, words_call}
use Rattle.xns_connection.specs.declared.call.Call.{Call}

abbrev pub raw_of_call : Call → RawCall
raw_of_call c = words_call c.program c.version c.procedure c.words.now
