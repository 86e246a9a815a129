use Rattle.std.proofs.Common.{◌≡◌, refl}
use Rattle.world_rules.specs.Calls as CallIs
use Rattle.host_calls.proofs.OutsideNames.{names_itself}
use Rattle.host_calls.proofs.outside_calls.outside_step.Goals as goal

pub returns-in-Bind-clause-port : goal.returns-in-Bind-clause-port
returns-in-Bind-clause-port g c = λ named b found.
    let same : CallIs.Bind ≡ CallIs.LocalPort = names_itself 27 c.args.ask.call CallIs.Bind CallIs.LocalPort c.in-Bind.ensures refl named in absurd (cc)

pub returns-in-Accept-clause-port : goal.returns-in-Accept-clause-port
returns-in-Accept-clause-port g c = λ named b found.
    let same : CallIs.Accept ≡ CallIs.LocalPort = names_itself 29 c.args.ask.call CallIs.Accept CallIs.LocalPort c.in-Accept.ensures refl named in absurd (cc)

pub returns-in-Connect-clause-port : goal.returns-in-Connect-clause-port
returns-in-Connect-clause-port g c = λ named b found.
    let same : CallIs.Connect ≡ CallIs.LocalPort = names_itself 30 c.args.ask.call CallIs.Connect CallIs.LocalPort c.in-Connect.ensures refl named in absurd (cc)

pub returns-in-ReadStream-clause-port : goal.returns-in-ReadStream-clause-port
returns-in-ReadStream-clause-port g c = λ named b found.
    let same : CallIs.ReadStream ≡ CallIs.LocalPort = names_itself 31 c.args.ask.call CallIs.ReadStream CallIs.LocalPort c.in-ReadStream.ensures refl named in absurd (cc)

pub returns-in-WriteStream-clause-port : goal.returns-in-WriteStream-clause-port
returns-in-WriteStream-clause-port g c = λ named b found.
    let same : CallIs.WriteStream ≡ CallIs.LocalPort = names_itself 32 c.args.ask.call CallIs.WriteStream CallIs.LocalPort c.in-WriteStream.ensures refl named in absurd (cc)
