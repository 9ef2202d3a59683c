use Rattle.std.proofs.Common.{[], append-nil}
use Rattle.xns_dump.specs.Dump.{text_of}
use Rattle.xns_dump.proofs.Texts.{text_behind}
use Rattle.xns_dump.proofs.printer.DumpPrinterLinePrinter.text_only_grows.Goals as goal

pub returns-clause-begins : goal.returns-clause-begins
returns-clause-begins c = text_behind

pub returns-clause-ends : goal.returns-clause-ends
returns-clause-ends c = λ lines part. ([], append-nil (text_of lines))
