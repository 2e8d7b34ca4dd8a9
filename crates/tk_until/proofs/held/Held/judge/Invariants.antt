use Rattle.std.proofs.Common.{◌≡◌, ℕ, List, length}
use Rattle.tk_until.specs.Held.{given_until, held_len}
use Rattle.tk_until.proofs.held.Held.judge.Given as goal

-- what is still given stays the same
abbrev pub invariant-lines : goal.invariant-lines
invariant-lines l = record {
  same : (rest : List ℕ) → given_until l.until l.self rest ≡ given_until l.until l.initial.self rest;
  len : held_len l.self ≡ held_len l.initial.self;
}

abbrev pub decreases-lines : goal.decreases-lines
decreases-lines l = length l.self.more
