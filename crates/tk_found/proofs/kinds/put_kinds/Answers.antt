use Rattle.std.proofs.Common.{List, ℕ, zero, suc, [], ◌∷◌, ◌≡◌, ◌<◌, ◌≤◌, length, get_or, subst, sym, refl, arith, ◌∙◌}
use Rattle.std.specs.Prelude.{string_bytes}
use Rattle.std.proofs.lemmas.List.{take_all}
use Rattle.std.specs.Prelude.{flat_map}
use Rattle.tk_odd.specs.declared.finding.OddKind.{OddKind}
use Rattle.tk_odd.specs.declared.finding.OddKind.TheVariants.{HoldsUp}
use Rattle.tk_report.specs.Pieces.{Puts}
use Rattle.tk_report.proofs.PutLemmas.{both}
use Rattle.tk_found.specs.Lines.{kind_line}
use Rattle.tk_found.proofs.LineLemmas.{flat_more}
use Rattle.tk_found.proofs.kinds.put_kinds.Goals as goal

-- an item that is there is the same by any default
same_at : (xs : List OddKind) (i : ℕ) (x y : OddKind) → i < length xs → get_or xs i x ≡ get_or xs i y
same_at [] i x y h = absurd (omega (arith, h))
same_at (z ∷ zs) zero x y h = refl
same_at (z ∷ zs) (suc i) x y h = same_at zs i x y (omega (arith, h))

pub loop-kind-preserved : goal.loop-kind-preserved
loop-kind-preserved c =
    let i = c.loop-kind.kind-index in
    let ks = c.kinds.result in
    let there : i < length ks = subst (λ (xs : List OddKind). i < length xs) (sym c.kinds.ensures) c.loop-kind-test.true in
    subst (λ (p : List ℕ). Puts (string_bytes c.args.out.now) (string_bytes c.put_kind.new.out) p)
    (sym (flat_more kind_line ks i (get_or ks i HoldsUp) there (same_at ks i HoldsUp (get_or ks i HoldsUp) there)))
    (both c.loop-kind.invariant c.in_ok-put_kind.ensures)

pub returns : goal.returns
returns c =
    let i = c.loop-kind.kind-index in
    let all : length c.kinds.result ≤ i = subst (λ (xs : List OddKind). length xs ≤ i) (sym c.kinds.ensures) c.loop-kind-test.false in
    subst (λ (ks : List OddKind). Puts (string_bytes c.args.out.now) (string_bytes c.loop-kind.out) (flat_map kind_line ks))
    (take_all i c.kinds.result all ∙ c.kinds.ensures) c.loop-kind.invariant
