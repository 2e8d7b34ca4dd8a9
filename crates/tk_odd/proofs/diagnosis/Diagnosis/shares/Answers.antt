use Rattle.std.proofs.Common.{ap}
use Rattle.tk_odd.specs.Diagnosis.{Standing}
use Rattle.tk_odd.proofs.diagnosis.Diagnosis.shares.Goals as goal

pub returns : goal.returns
returns c = λ shown f. ap (λ (s : Standing). s.shares) f.standing
