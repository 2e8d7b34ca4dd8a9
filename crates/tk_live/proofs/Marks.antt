-- Marks of wakers, and the lines that they are of.
use Rattle.std.proofs.Common.{◌≡◌, ℕ, ◌==◌, ◌||◌, ◌&&◌, Bool, true, false, List, [], ◌∷◌, Some, None, refl, sym, ◌∙◌, true≢false}
use Rattle.std.specs.Prelude.{nat_eq, if◌then◌else◌}
use Rattle.std.proofs.lemmas.Option.{none-some}
use Rattle.std.specs.HashMap.{HashMap, get}
use Rattle.tk_live.specs.Blocks.{is_named, is_last, spends}
use Rattle.tk_live.specs.Threads.{AreMarked}
use Rattle.tk_script.specs.declared.block.WorkerLine.{WorkerLine}

-- lines that don't name a waker don't spend it
pub unspent : (n : ℕ) (ls : List WorkerLine) → is_named n ls ≡ false → spends n ls ≡ false
unspent n [] e = refl
unspent n (l ∷ ls) e = go (l.waker == n) (is_named n ls) e (unspent n ls)
  where
    go : (b c : Bool) → (b || c) ≡ false → (c ≡ false → spends n ls ≡ false) → ((b && is_last l.call) || spends n ls) ≡ false
    go false false f rest = rest refl
    go false true f rest = absurd (true≢false f)
    go true c f rest = absurd (true≢false f)

-- without a mark lines don't have the last call
pub mark_absent : {S : Type 0} (ls : List WorkerLine) (m : HashMap ℕ Bool S) → AreMarked ls m → (n : ℕ) → get nat_eq m n ≡ None → false ≡ spends n ls
mark_absent ls m marked n e = go (is_named n ls) refl (sym (marked n) ∙ e)
  where
    go : (b : Bool) → is_named n ls ≡ b → (if b then Some (spends n ls) else None) ≡ None → false ≡ spends n ls
    go false is f = sym (unspent n ls is)
    go true is f = absurd (none-some _ (sym f))
