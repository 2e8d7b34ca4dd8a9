-- What the lists of several callers add up to.
use Rattle.std.proofs.Common.{length, length-append, ◌≡◌, ◌≢◌, ℕ, ◌+◌, ◌<◌, ◌≤◌, Bool, true, false, cond, List, [], ◌∷◌, ◌++◌, eqb, refl, ap, sym, ◌∙◌, subst, arith, append_assoc, ⊎_elim, Some}
use Rattle.std.specs.Prelude.{◌==◌, filter, map}
use Rattle.std.proofs.lemmas.Bool.{eq-eqb, ne_eqb, cases_lt}
use Rattle.std.proofs.lemmas.List.{append-nil}
use Rattle.std.proofs.lemmas.List.Elements.{filter-append}
use Rattle.tk_core.specs.declared.history.Entry.{Entry}
use Rattle.tk_core.specs.declared.reply.Reply.{Reply}
use Rattle.tk_core.specs.Lists.{capped, count_of, total}
use Rattle.tk_core.specs.History.{accepted}
use Rattle.tk_core.specs.Fold.{is_accepted}
use Rattle.tk_core.specs.Meaning.{Meaning}
use Rattle.tk_core.specs.Legal.{own, maker, IsLegal}
use Rattle.tk_cell.specs.declared.view.View.{View}
use Rattle.tk_cell.specs.Views.{times}
use Rattle.tk_cell.specs.Calls.{entry, Calls}
use Rattle.tk_cell.proofs.ListLemmas.{dec_eq}
use Rattle.tk_cell.proofs.HistoryLemmas.{may_made, prefix_is_legal, maker_more}
use Rattle.tk_ledgers.specs.Sums.{HoldsAll, tally, sum_held}

-- a sum over entries, each with its weight
module _ {C R : Type 0} (f : Entry C R → ℕ) (summed : List (Entry C R) → ℕ) (zero' : summed [] ≡ 0) (more : (e : Entry C R) (h : List (Entry C R)) → summed (e ∷ h) ≡ f e + summed h) where
  abbrev held_total : List ℕ → List (Entry C R) → ℕ
  held_total ns h = total (λ n. summed (own n h)) ns

  pub summed-append : (xs ys : List (Entry C R)) → summed (xs ++ ys) ≡ summed xs + summed ys
  summed-append [] ys = omega (arith, zero')
  summed-append (x ∷ xs) ys = omega (arith, more x (xs ++ ys), more x xs, summed-append xs ys)

  own_here : (n : ℕ) (e : Entry C R) (h : List (Entry C R)) → e.caller ≡ n → summed (own n (e ∷ h)) ≡ f e + summed (own n h)
  own_here n e h is = let t : eqb e.caller n ≡ true = eq-eqb e.caller n is in rw t (more e (own n h))

  own_there : (n : ℕ) (e : Entry C R) (h : List (Entry C R)) → e.caller ≢ n → summed (own n (e ∷ h)) ≡ summed (own n h)
  own_there n e h isnt = let t : eqb e.caller n ≡ false = ne_eqb e.caller n isnt in rw t refl

  -- one more entry by nobody among them adds nothing, and one by one of them adds its weight
  held_none : (ns : List ℕ) (e : Entry C R) (h : List (Entry C R)) → times e.caller ns ≡ 0 → held_total ns (e ∷ h) ≡ held_total ns h
  held_none [] e h none = refl
  held_none (n ∷ ns) e h none = ⊎_elim
      (λ (is : n ≡ e.caller). let t : eqb n e.caller ≡ true = eq-eqb n e.caller is in let bad : 1 + times e.caller ns ≡ 0 = rw t at none in absurd (omega (arith, bad)))
      (λ (isnt : n ≢ e.caller). let t : eqb n e.caller ≡ false = ne_eqb n e.caller isnt in let less : 0 + times e.caller ns ≡ 0 = rw t at none in
      omega (arith, own_there n e h (λ (s : e.caller ≡ n). isnt (sym s)), held_none ns e h (omega (arith, less))))
      (dec_eq n e.caller)

  held_one : (ns : List ℕ) (e : Entry C R) (h : List (Entry C R)) → times e.caller ns ≡ 1 → held_total ns (e ∷ h) ≡ f e + held_total ns h
  held_one [] e h one = absurd (omega arith)
  held_one (n ∷ ns) e h one = ⊎_elim
      (λ (is : n ≡ e.caller). let t : eqb n e.caller ≡ true = eq-eqb n e.caller is in let rest : 1 + times e.caller ns ≡ 1 = rw t at one in
      omega (arith, own_here n e h (sym is), held_none ns e h (omega (arith, rest))))
      (λ (isnt : n ≢ e.caller). let t : eqb n e.caller ≡ false = ne_eqb n e.caller isnt in let rest : 0 + times e.caller ns ≡ 1 = rw t at one in
      omega (arith, own_there n e h (λ (s : e.caller ≡ n). isnt (sym s)), held_one ns e h (omega (arith, rest))))
      (dec_eq n e.caller)

  none_held : (ns : List ℕ) → held_total ns [] ≡ 0
  none_held [] = refl
  none_held (n ∷ ns) = omega (arith, zero', none_held ns)

  -- the lists of distinct callers add up to no more than the history
  pub held_least : (ns : List ℕ) (h : List (Entry C R)) → ((n : ℕ) → times n ns ≤ 1) → held_total ns h ≤ summed h
  held_least ns [] once = let z = none_held ns in omega (arith, z)
  held_least ns (e ∷ h) once = let rest = held_least ns h once in let o = once e.caller in let head = more e h in ⊎_elim
      (λ (some_held : 0 < times e.caller ns). let w = held_one ns e h (omega (arith, o, some_held)) in omega (arith, w, rest, head))
      (λ (none : times e.caller ns ≤ 0). let w = held_none ns e h (omega (arith, none)) in omega (arith, w, rest, head))
      (cases_lt 0 (times e.caller ns))

  -- and to as much, where each entry is by one of them
  pub held_exact : (ns : List ℕ) (h : List (Entry C R)) → ((n : ℕ) → times n ns ≤ 1) → ((before later : List (Entry C R)) (e : Entry C R) → before ++ e ∷ later ≡ h → 0 < times e.caller ns) → held_total ns h ≡ summed h
  held_exact ns [] once all = let z = none_held ns in omega (arith, z, zero')
  held_exact ns (e ∷ h) once all =
      let rest = held_exact ns h once (λ before later x cut. all (e ∷ before) later x (ap (λ w. e ∷ w) cut)) in
      let o = once e.caller in let some_held = all [] h e refl in let head = more e h in
      let w = held_one ns e h (omega (arith, o, some_held)) in omega (arith, w, rest, head)

module _ {O C R : Type 0} (m : Meaning O C R) where
  -- each entry of a legal history is by one that is held
  all_held : (opening : O) (v : View O C R) → IsLegal m opening v.seen → HoldsAll m v → (before later : List (Entry C R)) (e : Entry C R) → before ++ e ∷ later ≡ v.seen → 0 < times e.caller v.held
  all_held opening v legal all before later e cut = ⊎_elim
      (λ (z : e.caller ≡ 0). subst (λ (n : ℕ). 0 < times n v.held) (sym z) all.0)
      (λ (ne : e.caller ≢ 0). let made = may_made m e.caller before e.call ne (legal before later e cut).role in
      all.1 e.caller made.0 (subst (λ (l : List (Entry C R)). maker m e.caller l ≡ Some made.0) cut (maker_more m e.caller before (e ∷ later) made.0 made.1)))
      (dec_eq e.caller 0)

  own_longer : (seen rest : List (Entry C R)) (e : Entry C R) → length (own e.caller (seen ++ e ∷ rest)) ≡ length (own e.caller seen) + (1 + length (own e.caller rest))
  own_longer seen rest e =
      let g : Entry C R → Bool = λ x. x.caller == e.caller in
      let t : eqb e.caller e.caller ≡ true = eq-eqb e.caller e.caller refl in
      let here : own e.caller (e ∷ rest) ≡ e ∷ own e.caller rest = rw t refl in
      ap (λ (l : List (Entry C R)). length l) (filter-append g seen (e ∷ rest) ∙ ap (λ (l : List (Entry C R)). own e.caller seen ++ l) here) ∙ (length-append (own e.caller seen) (e ∷ own e.caller rest) ∙ omega arith)

  module _ (v : View O C R) (call : C) (reply : R) (w : View O C R) (k : Calls m v call reply w) where
    -- where all callers are held, nothing came between
    none_between : HoldsAll m v → k.between ≡ []
    none_between all = go k.between refl
      where
        go : (b : List (Entry C R)) → k.between ≡ b → b ≡ []
        go [] is = refl
        go (e ∷ rest) is =
            let new : Entry C R = entry v.caller call reply in
            let all_seen : w.seen ≡ v.seen ++ e ∷ (rest ++ new ∷ []) = k.grows ∙ (ap (λ (l : List (Entry C R)). (v.seen ++ l) ++ new ∷ []) is ∙ append_assoc v.seen (e ∷ rest) (new ∷ [])) in
            let role = (k.legal v.seen (rest ++ new ∷ []) e (sym all_seen)).role in
            let held : 0 < times e.caller v.held = ⊎_elim
            (λ (z : e.caller ≡ 0). subst (λ (n : ℕ). 0 < times n v.held) (sym z) all.0)
            (λ (ne : e.caller ≢ 0). let made = may_made m e.caller v.seen e.call ne role in all.1 e.caller made.0 made.1)
            (dec_eq e.caller 0) in
            let long : length (own e.caller w.seen) ≡ length (own e.caller v.seen) + (1 + length (own e.caller (rest ++ new ∷ []))) = ap (λ (l : List (Entry C R)). length (own e.caller l)) all_seen ∙ own_longer v.seen (rest ++ new ∷ []) e in
            ⊎_elim
            (λ (mine : e.caller ≡ v.caller).
            let once : length (own v.caller w.seen) ≡ length (own v.caller v.seen) + 1 = ap (λ (l : List (Entry C R)). length l) k.mine ∙ length-append (own v.caller v.seen) (new ∷ []) in
            let again : length (own v.caller (rest ++ new ∷ [])) ≡ length (own v.caller rest) + (1 + 0) = own_longer rest [] new in
            let long' : length (own v.caller w.seen) ≡ length (own v.caller v.seen) + (1 + length (own v.caller (rest ++ new ∷ []))) = subst (λ (n : ℕ). length (own n w.seen) ≡ length (own n v.seen) + (1 + length (own n (rest ++ new ∷ [])))) mine long in
            absurd (omega (arith, once, again, long')))
            (λ (ne : e.caller ≢ v.caller).
            let same : length (own e.caller w.seen) ≡ length (own e.caller v.seen) = ap (λ (l : List (Entry C R)). length l) (k.others e.caller held ne) in
            absurd (omega (arith, same, long)))
            (dec_eq e.caller v.caller)

    -- what came before the call totals at least what the lists of the callers held do, and as much where all are held
    module _ (f : Entry C R → ℕ) (summed : List (Entry C R) → ℕ) (zero' : summed [] ≡ 0) (more : (e : Entry C R) (h : List (Entry C R)) → summed (e ∷ h) ≡ f e + summed h) where
      pub before_least : total (λ n. summed (own n v.seen)) v.held ≤ summed (v.seen ++ k.between)
      before_least = let a = held_least f summed zero' more v.held v.seen k.distinct in let b = summed-append f summed zero' more v.seen k.between in omega (arith, a, b)

      pub before_exact : HoldsAll m v → summed (v.seen ++ k.between) ≡ total (λ n. summed (own n v.seen)) v.held
      before_exact all =
          let legal_v : IsLegal m k.opening v.seen = prefix_is_legal m k.opening v.seen w.seen (k.between ++ entry v.caller call reply ∷ [], sym (append_assoc v.seen k.between (entry v.caller call reply ∷ [])) ∙ sym k.grows) k.legal in
          ap (λ (l : List (Entry C R)). summed (v.seen ++ l)) (none_between all) ∙ (ap (λ (l : List (Entry C R)). summed l) (append-nil v.seen) ∙ sym (held_exact f summed zero' more v.held v.seen k.distinct (all_held k.opening v legal_v all)))

-- of no calls none passes a test
none_yet : (Row : Type 0) {C : Type 0} (test : C → Bool) → tally {Row = Row} test [] ≡ 0
unfolding accepted
none_yet Row test = refl

-- how many accepted calls pass a test
module _ {Row C : Type 0} (test : C → Bool) where
  abbrev pub one : Entry C (Reply Row) → ℕ
  one e = length (filter test (cond (is_accepted e.reply) (e.call ∷ []) []))

  abbrev kept : List (Entry C (Reply Row)) → List (Entry C (Reply Row))
  kept h = filter (λ (x : Entry C (Reply Row)). is_accepted x.reply) h

  tally_cons : (e : Entry C (Reply Row)) (h : List (Entry C (Reply Row))) → tally test (e ∷ h) ≡ one e + tally test h
  unfolding accepted
  tally_cons e h = go (is_accepted e.reply)
    where
      go : (b : Bool) → length (filter test (map (λ (x : Entry C (Reply Row)). x.call) (cond b (e ∷ kept h) (kept h)))) ≡ length (filter test (cond b (e.call ∷ []) [])) + length (filter test (map (λ (x : Entry C (Reply Row)). x.call) (kept h)))
      go true = ap (λ (l : List C). length l) (filter-append test (e.call ∷ []) (map (λ (x : Entry C (Reply Row)). x.call) (kept h))) ∙ length-append (filter test (e.call ∷ [])) (filter test (map (λ (x : Entry C (Reply Row)). x.call) (kept h)))
      go false = omega arith

  pub tally_push : (h : List (Entry C (Reply Row))) (e : Entry C (Reply Row)) → tally test (h ++ e ∷ []) ≡ tally test h + one e
  tally_push h e =
      let nothing = none_yet Row test in let last = tally_cons e [] in
      omega (arith, summed-append one (tally test) nothing tally_cons h (e ∷ []), last, nothing)

  module _ (m : Meaning Row C (Reply Row)) (v : View Row C (Reply Row)) (call : C) (reply : Reply Row) (w : View Row C (Reply Row)) (k : Calls m v call reply w) where
    pub count_least : sum_held test v ≤ count_of test (accepted is_accepted (v.seen ++ k.between))
    unfolding count_of
    count_least = let a = before_least m v call reply w k one (tally test) (none_yet Row test) tally_cons in omega (arith, a)

    pub count_exact : HoldsAll m v → count_of test (accepted is_accepted (v.seen ++ k.between)) ≡ sum_held test v
    unfolding count_of
    count_exact all = ap capped (before_exact m v call reply w k one (tally test) (none_yet Row test) tally_cons all)
