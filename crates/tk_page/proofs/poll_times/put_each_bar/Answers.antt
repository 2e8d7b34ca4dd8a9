use Rattle.std.proofs.Common.{◌≡◌, ◌+◌, ◌<◌, ℕ, zero, suc, List, [], ◌∷◌, ◌++◌, length, get_or, take, ap, sym, ◌∙◌, add-one, append-nil, append_assoc, arith, subst}
use Rattle.std.proofs.lemmas.List.{take_all}
use Rattle.tk_paper.specs.Parts.{Bit}
use Rattle.tk_paper.specs.Pieces.{Writes}
use Rattle.tk_paper.proofs.PutLemmas.{nothing, then}
use Rattle.tk_page.specs.PollTimes.{bar, bars_from}
use Rattle.tk_page.proofs.poll_times.put_each_bar.Goals as goal

-- a bar more
bars_next : (most k : ℕ) (counts : List ℕ) (i : ℕ) → i < length counts → bars_from most k (take (suc i) counts) ≡ bars_from most k (take i counts) ++ bar most (k + i) (get_or counts i 0)
bars_next most k [] i h = absurd (omega (arith, h))
bars_next most k (n ∷ ns) zero h =
    let at : k ≡ k + 0 = omega arith in
    append-nil (bar most k n) ∙ ap (λ (j : ℕ). bar most j n) at
bars_next most k (n ∷ ns) (suc i) h =
    let at : k + 1 + i ≡ k + suc i = omega arith in
    ap (λ (bs : List Bit). bar most k n ++ bs) (bars_next most (k + 1) ns i (omega (arith, h)) ∙ ap (λ (j : ℕ). bars_from most (k + 1) (take i ns) ++ bar most j (get_or ns i 0)) at)
    ∙ sym (append_assoc (bar most k n) (bars_from most (k + 1) (take i ns)) (bar most (k + suc i) (get_or ns i 0)))

pub loop-bucket-init : goal.loop-bucket-init
loop-bucket-init c = nothing c.args.paper.now

pub loop-bucket-preserved : goal.loop-bucket-preserved
loop-bucket-preserved c =
    let counts = c.args.counts.now in
    let i = c.loop-bucket.bucket in
    let at : 0 + i ≡ i = omega arith in
    rw add-one (subst (Writes c.args.paper.now c.put_bar.new.paper) (sym (bars_next c.args.most 0 counts i (omega arith) ∙ ap (λ (j : ℕ). bars_from c.args.most 0 (take i counts) ++ bar c.args.most j (get_or counts i 0)) at))
    (then c.loop-bucket.invariant c.in_ok-put_bar.ensures))

pub returns : goal.returns
returns c =
    let counts = c.args.counts.now in
    subst (λ (xs : List ℕ). Writes c.args.paper.now c.loop-bucket.paper (bars_from c.args.most 0 xs)) (take_all c.loop-bucket.bucket counts (omega arith)) c.loop-bucket.invariant
