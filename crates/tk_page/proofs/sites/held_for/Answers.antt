use Rattle.std.proofs.Common.{◌≡◌, ◌+◌, ◌<◌, ℕ, List, length, take, slice_get, Option, None, Some, refl, ap, sym, ◌∙◌, arith}
use Rattle.std.specs.Prelude.{fold}
use Rattle.std.specs.Option.{option_map_or}
use Rattle.tk_page.specs.Sites.{held_if}
use Rattle.tk_page.proofs.LoopLemmas.{fold_next, past_end}
use Rattle.tk_page.proofs.sites.held_for.Goals as goal

one_more : {A B : Type 0} (f : B → A → B) (b : B) (xs : List A) (i : ℕ) (r : B) → i < length xs → r ≡ fold f b (take i xs)
    → option_map_or (f r) (slice_get xs i) r ≡ fold f b (take (i + 1) xs)
one_more {A} f b xs i r h is = by (slice_get xs i) refl
  where
    by : (o : Option A) → slice_get xs i ≡ o → option_map_or (f r) o r ≡ fold f b (take (i + 1) xs)
    by None e = absurd (omega (arith, h, past_end xs i (sym e)))
    by (Some x) e = ap (λ s. f s x) is ∙ sym (fold_next f b xs i x (sym e))

pub loop-i-preserved : goal.loop-i-preserved
loop-i-preserved c =
    c.held_at-found.ensures ∙ one_more (held_if c.args.site.now) 0 c.args.held.now c.loop-i.i c.loop-i.found (omega arith) c.loop-i.invariant
