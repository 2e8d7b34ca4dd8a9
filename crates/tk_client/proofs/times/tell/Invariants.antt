use Rattle.std.proofs.Common.{◌≡◌, take}
use Rattle.tk_stream.specs.Applied.{times_told}
use Rattle.tk_client.proofs.times.tell.Given as goal

-- the histograms that are told so far
abbrev pub invariant-loop-one : goal.invariant-loop-one
invariant-loop-one l = l.times ≡ times_told l.fn.times (take l.one-index l.told)
