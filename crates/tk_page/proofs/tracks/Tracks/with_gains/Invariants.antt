use Rattle.std.proofs.Common.{◌≡◌, ℕ, take, slice_get}
use Rattle.std.specs.Prelude.{fold}
use Rattle.std.specs.Option.{option_map_or}
use Rattle.tk_page.specs.Kept.{with_gain_by}
use Rattle.tk_page.specs.declared.sample.Sample.{Sample}
use Rattle.tk_page.proofs.tracks.Tracks.with_gains.Given as goal

-- what those so far gained is in the sum
abbrev pub invariant-loop-place : goal.invariant-loop-place
invariant-loop-place l = l.sum
    ≡ fold (λ (sum : Sample) (place : ℕ). option_map_or (with_gain_by l.moment l.tables l.self sum) (slice_get l.tables.tasks place) sum) l.fn.total (take l.place-index l.places)
