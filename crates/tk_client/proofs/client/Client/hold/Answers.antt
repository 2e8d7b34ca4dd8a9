use Rattle.std.proofs.Common.{◌≡◌, ◌+◌, ◌-◌, ◌≤◌, ℕ, List, length, arith, refl, ap, sym, ◌∙◌}
use Rattle.tk_client.specs.Meaning.{Start, goes}
use Rattle.tk_client.proofs.Ends.{stops_too_long, holds}
use Rattle.tk_client.proofs.client.Client.hold.Goals as goal

pub returns-then-bytes-room-clause-stopped : goal.returns-then-bytes-room-clause-stopped
returns-then-bytes-room-clause-stopped c =
    let room : ℕ = c.self.inside.limit - c.len.result in
    let start : Start = record { tables = c.self.inside.shown; last = c.self.inside.last; part = c.self.inside.part.items; times = c.self.inside.times } in
    let fits : length start.part + room ≡ c.self.inside.limit = omega (arith, c.len.ensures, c.self.invariant.0) in
    record {
      within = omega arith;
      few = omega arith;
      by = (rw (← c.self.view_is) (stops_too_long c.self.inside.limit start c.args.bytes.now room c.requires.whole fits (omega arith)), refl);
    }

pub returns-clause-held : goal.returns-clause-held
returns-clause-held c =
    let start : Start = record { tables = c.self.inside.shown; last = c.self.inside.last; part = c.self.inside.part.items; times = c.self.inside.times } in
    let fits : length start.part + length c.args.bytes.now ≤ c.self.inside.limit = omega (arith, c.len.ensures, c.self.invariant.0) in
    record {
      came = rw (← c.self.view_is)
          (holds c.self.inside.limit start c.args.bytes.now c.requires.whole fits
          ∙ ap (λ (part : List ℕ). goes (record start { part = part }) 0) (sym c.in_default.ensures.items));
      sound = ap (λ v. v.has_failed) c.self.view_is ∙ c.requires.sound;
    }
