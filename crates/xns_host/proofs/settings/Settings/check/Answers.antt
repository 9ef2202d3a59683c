use Rattle.std.proofs.Common.{◌∙◌, sym}
use Rattle.xns_host.proofs.Fitting.{fit_of}
use Rattle.xns_host.proofs.settings.Settings.check.Goals as goal

pub returns-in-None-clause-fit : goal.returns-in-None-clause-fit
returns-in-None-clause-fit c = fit_of c.args.self.now (sym c.wrong.ensures ∙ c.in-None.is)
