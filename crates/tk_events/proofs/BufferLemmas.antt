-- Each step keeps the rule of a buffer.
use Rattle.std.proofs.Common.{◌≡◌, ◌≢◌, ℕ, zero, suc, ◌+◌, ◌<◌, ◌≤◌, List, [], ◌∷◌, ◌++◌, length, length-append, get_or, set, Option, Some, None, refl, ap, sym, ◌∙◌, subst, arith, ⊎_elim, append_assoc}
use Rattle.std.specs.List.{All, AllPairs}
use Rattle.std.proofs.lemmas.List.{append-nil, map-append}
use Rattle.std.proofs.lemmas.List.Elements.{filter-append, All-push, All-head, All-nil}
use Rattle.std.proofs.lemmas.List.Quantifiers.{all_pairs_push}
use mathlib.Core.Option.{some, some-injective, some-ne-none}
use lib.ListN.{get_elem?}
use Rattle.atomic_table.proofs.Lists.{at_set, at_snoc, set_here}
use Rattle.crossbeam_queue.specs.Fifo.{Pushes, Pops, Forks, Merges, Learns}
use Rattle.tk_events.specs.Offers.{Item}
use Rattle.tk_events.specs.declared.item.Offer.{Offer}
use Rattle.tk_events.specs.declared.buffer.view.Role.{Role}
use Rattle.tk_events.specs.declared.buffer.view.Role.TheVariants.{Takes, Records, Spent}
use Rattle.tk_events.specs.declared.buffer.view.Returned.{Returned}
use Rattle.tk_events.specs.declared.buffer.view.View.{View}
use Rattle.tk_events.specs.Offers.{offer_of, offers_of, by, Rises}
use Rattle.tk_events.specs.Buffer.{first, spent, keeps, notes, takes, limits, makes, newborn, returned, takes_in, gives_back, lent, given_back, numbers_known, numbers_of, holds, IsKnown, IsRecorder, IsTaker, IsPart, IsNamed, Kept, IsContentFor, IsBalanced}
use Rattle.tk_cell.specs.Views.{times}
use Rattle.tk_core.specs.Lists.{total}
use Rattle.tk_cell.proofs.ListLemmas.{dec_eq, times-append, times_itself, times_other, total_set, total_snoc, total_one, total_two, total_none}
use Rattle.tk_events.proofs.ListLemmas.{times_one, times_at, each_set, at_below, by_mine, by_other, by_none, all_left, all_right, pairs_left}

-- how a view with a role answers for a number
holds_recorder : (n : ℕ) (v : View) → v.role ≡ Records → holds n v ≡ times n (v.number ∷ [])
holds_recorder n v is = ap (λ (r : Role). times n (numbers_of r v)) is

holds_taker : (n : ℕ) (v : View) → v.role ≡ Takes → holds n v ≡ times n (0 ∷ numbers_known v.known)
holds_taker n v is = ap (λ (r : Role). times n (numbers_of r v)) is

recorder_one : (v : View) → v.role ≡ Records → 0 < holds v.number v
recorder_one v is = let a = holds_recorder v.number v is in let b = times_itself v.number in omega (arith, a, b)

taker_one : (v : View) → v.role ≡ Takes → 0 < holds 0 v
taker_one v is = let a = holds_taker 0 v is in let b = times_itself 0 in omega (arith, a, b)

-- the number of a returned recorder is the taker's
known_one : (v : View) (k : ℕ) (d : Returned) → v.role ≡ Takes → k < length v.known → 0 < holds (get_or v.known k d).number v
known_one v k d is lt = let n = (get_or v.known k d).number in let a = holds_taker n v is in let b = times_at v.known k d lt in omega (arith, a, b)

-- no number has two views
alone : (views : List View) (once : (n : ℕ) → total (holds n) views ≤ 1) (i j : ℕ) (v u : View) (n : ℕ) → j ≢ i → get_elem? views i ≡ some v → get_elem? views j ≡ some u → 0 < holds n v → 0 < holds n u → ⊥
alone views once i j v u n ne a b p q = let t = total_two (holds n) views j i u v ne b a in let o = once n in omega (arith, t, o)

spent_part : (recorders made : ℕ) (taken all : List Offer) → IsPart recorders made taken all spent
spent_part recorders made taken all = record { recorder = λ e. absurd (cc); taker = λ e. absurd (cc) }

-- what is known stays known when another recorder's offer comes
known_more : (made : ℕ) (all : List Offer) (o : Offer) (r : Returned) → o.recorder ≢ r.number → IsKnown made all r → IsKnown made (all ++ o ∷ []) r
known_more made all o r apart k = record {
  low = k.low;
  high = k.high;
  kept = filter-append (λ (x : Offer). Rattle.std.specs.Prelude.nat_eq x.recorder r.number) all (o ∷ []) ∙ (ap (λ (l : List Offer). by r.number all ++ l) (by_other r.number o apart) ∙ (append-nil (by r.number all) ∙ k.kept));
}

begins_parts : (i : ℕ) (v : View) → get_elem? (first ∷ []) i ≡ some v → IsPart 0 0 [] [] v
begins_parts zero v e = subst (λ (u : View). IsPart 0 0 [] [] u) (some-injective first v e) (record {
  recorder = λ x. absurd (cc);
  taker = λ x. record { same = refl; made' = refl; taken' = refl; known = All-nil (IsKnown 0 []) };
})
begins_parts (suc i) v e = absurd (some-ne-none v (sym e))

pub begins : Kept [] (first ∷ [])
begins = record {
  recorders = 0;
  made = 0;
  taken = [];
  room = omega arith;
  parts = begins_parts;
  once = λ n. let t = times_one n 0 in omega (arith, t);
  named = All-nil (IsNamed 0);
  rises = λ p i j d lt in'. absurd (omega arith);
}

-- A push of a recorder.
module _ (pass : ℕ) (v : View) (x : Item) (role : v.role ≡ Records) (own : x.recorder ≡ v.number) (above : All (λ o. o.number < x.number) v.kept) where
  module _ (items : List Item) (views : List View) (k : Kept items views) (at : get_elem? views pass ≡ some v) where
    abbrev all : List Offer
    all = k.taken ++ offers_of items

    abbrev offer : Offer
    offer = offer_of x

    mine : IsRecorder k.recorders k.made k.taken all v
    mine = (k.parts pass v at).recorder role

    kept_more : by v.number (all ++ offer ∷ []) ≡ v.kept ++ offer ∷ []
    kept_more = filter-append (λ (y : Offer). Rattle.std.specs.Prelude.nat_eq y.recorder v.number) all (offer ∷ []) ∙ (λ i. mine.kept i ++ by_mine v.number offer own i)

    others : (j : ℕ) (u : View) → j ≢ pass → get_elem? views j ≡ some u → IsPart k.recorders k.made k.taken (all ++ offer ∷ []) u
    others j u ne e = record {
      recorder = λ is.
          let r = (k.parts j u e).recorder is in
          let apart : x.recorder ≢ u.number = λ s. alone views k.once pass j v u v.number ne at e (recorder_one v role) (subst (λ (n : ℕ). 0 < holds n u) (sym s ∙ own) (recorder_one u is)) in
          record {
            same = r.same;
            low = r.low;
            high = r.high;
            kept = filter-append (λ (y : Offer). Rattle.std.specs.Prelude.nat_eq y.recorder u.number) all (offer ∷ []) ∙ (ap (λ (l : List Offer). by u.number all ++ l) (by_other u.number offer apart) ∙ (append-nil (by u.number all) ∙ r.kept));
            gone = r.gone;
          };
      taker = λ is.
          let t = (k.parts j u e).taker is in
          record {
            same = t.same;
            made' = t.made';
            taken' = t.taken';
            known = λ i d lt. known_more k.made all offer (get_or u.known i d)
                (λ s. alone views k.once pass j v u v.number ne at e (recorder_one v role) (subst (λ (n : ℕ). 0 < holds n u) (sym s ∙ own) (known_one u i d is lt)))
                (t.known i d lt);
          };
    }

    mine_more : IsPart k.recorders k.made k.taken (all ++ offer ∷ []) (keeps v offer)
    mine_more = record {
      recorder = λ is. record { same = mine.same; low = mine.low; high = mine.high; kept = kept_more; gone = mine.gone };
      taker = λ is. absurd (cc (role));
    }

    rises_more : Rises (all ++ offer ∷ [])
    rises_more p = ⊎_elim
        (λ (e : x.recorder ≡ p).
        let same : by p all ≡ v.kept = ap (λ (n : ℕ). by n all) (sym e ∙ own) ∙ mine.kept in
        let longer : by p (all ++ offer ∷ []) ≡ by p all ++ offer ∷ [] = filter-append (λ (y : Offer). Rattle.std.specs.Prelude.nat_eq y.recorder p) all (offer ∷ []) ∙ ap (λ (l : List Offer). by p all ++ l) (by_mine p offer e) in
        subst (λ (l : List Offer). AllPairs (λ a b. a.number < b.number) l) (sym longer)
        (all_pairs_push (λ (a b : Offer). a.number < b.number) (by p all) offer (k.rises p) (subst (λ (l : List Offer). All (λ o. o.number < x.number) l) (sym same) above)))
        (λ (ne : x.recorder ≢ p).
        let same : by p (all ++ offer ∷ []) ≡ by p all = filter-append (λ (y : Offer). Rattle.std.specs.Prelude.nat_eq y.recorder p) all (offer ∷ []) ∙ (ap (λ (l : List Offer). by p all ++ l) (by_other p offer ne) ∙ append-nil (by p all)) in
        subst (λ (l : List Offer). AllPairs (λ a b. a.number < b.number) l) (sym same) (k.rises p))
        (dec_eq x.recorder p)

    grown : all ++ offer ∷ [] ≡ k.taken ++ offers_of (items ++ x ∷ [])
    grown = append_assoc k.taken (offers_of items) (offer ∷ []) ∙ ap (λ (l : List Offer). k.taken ++ l) (sym (map-append offer_of items (x ∷ [])))

    pushed : Kept (items ++ x ∷ []) (set views pass (keeps v offer))
    pushed = record {
      recorders = k.recorders;
      made = k.made;
      taken = k.taken;
      room = k.room;
      parts = subst (λ (l : List Offer). (j : ℕ) (u : View) → get_elem? (set views pass (keeps v offer)) j ≡ some u → IsPart k.recorders k.made k.taken l u) grown
          (each_set (λ (u : View). IsPart k.recorders k.made k.taken (all ++ offer ∷ []) u) views pass (keeps v offer) mine_more others);
      once = λ n. let t = total_set (holds n) views pass v (keeps v offer) at in
          let a = holds_recorder n v role in let b = holds_recorder n (keeps v offer) role in let o = k.once n in omega (arith, t, a, b, o);
      named = subst (λ (l : List Offer). All (IsNamed k.made) l) grown
          (All-push (IsNamed k.made) all offer k.named (subst (λ (n : ℕ). 0 < n) (sym own) mine.low, subst (λ (n : ℕ). n ≤ k.made) (sym own) mine.high));
      rises = subst (λ (l : List Offer). Rises l) grown rises_more;
    }

pub pushes : (n pass : ℕ) (v : View) (x : Item) → v.role ≡ Records → x.recorder ≡ v.number → All (λ o. o.number < x.number) v.kept → Pushes Kept n pass v x (λ w. w ≡ keeps v (offer_of x))
pushes n pass v x role own above items views room k at = (keeps v (offer_of x), pushed pass v x role own above items views k at, refl)

-- what a recorder can tell
pub contents : (pass : ℕ) (v : View) → v.role ≡ Records → Learns Kept pass v (IsContentFor v)
contents pass v role items views k at =
    let mine = (k.parts pass v at).recorder role in
    record {
      before = k.taken;
      mine = mine.kept;
      gone = mine.gone;
      named = λ i d lt. let h = all_right (IsNamed k.made) k.taken (offers_of items) k.named i d lt in let r = k.room in let s = mine.same in (h.0, omega (arith, h.1, r, s));
    }

-- what the taker can tell
pub balances : (pass : ℕ) (v : View) → v.role ≡ Takes → Learns Kept pass v (λ items. IsBalanced v (offers_of items))
balances pass v role items views k at =
    let mine = (k.parts pass v at).taker role in
    record {
      known = subst (λ (t : ℕ × List Offer). All (IsKnown t.0 (t.1 ++ offers_of items)) v.known) (λ i. (sym mine.made' i, sym mine.taken' i)) mine.known;
      once = λ n. let t = total_one (holds n) views pass v at in let a = holds_taker n v role in let o = k.once n in omega (arith, t, a, o);
      named = subst (λ (t : ℕ × List Offer). All (IsNamed t.0) (t.1 ++ offers_of items)) (λ i. (sym mine.made' i, sym mine.taken' i)) k.named;
      rises = subst (λ (l : List Offer). Rises (l ++ offers_of items)) (sym mine.taken') k.rises;
    }

-- what was taken only grows
gone_more : (taken more : List Offer) (n gone : ℕ) → gone ≤ length (by n taken) → gone ≤ length (by n (taken ++ more))
gone_more taken more n gone le =
    let both = ap length (filter-append (λ (y : Offer). Rattle.std.specs.Prelude.nat_eq y.recorder n) taken more) ∙ length-append (by n taken) (by n more) in
    omega (arith, le, both)

-- A pop of the taker.
module _ (pass : ℕ) (v : View) (role : v.role ≡ Takes) (x : Item) (items : List Item) (views : List View) (k : Kept (x ∷ items) views) (at : get_elem? views pass ≡ some v) where
  abbrev taken' : List Offer
  taken' = k.taken ++ offer_of x ∷ []

  same_all : k.taken ++ offers_of (x ∷ items) ≡ taken' ++ offers_of items
  same_all = sym (append_assoc k.taken (offer_of x ∷ []) (offers_of items))

  pop_others : (j : ℕ) (u : View) → j ≢ pass → get_elem? views j ≡ some u → IsPart k.recorders k.made taken' (taken' ++ offers_of items) u
  pop_others j u ne e = record {
    recorder = λ is.
        let r = (k.parts j u e).recorder is in
        record { same = r.same; low = r.low; high = r.high; kept = subst (λ (l : List Offer). by u.number l ≡ u.kept) same_all r.kept; gone = gone_more k.taken (offer_of x ∷ []) u.number u.gone r.gone };
    taker = λ is. absurd (alone views k.once pass j v u 0 ne at e (taker_one v role) (taker_one u is));
  }

  pop_mine : IsPart k.recorders k.made taken' (taken' ++ offers_of items) (takes v (offer_of x))
  pop_mine = let mine = (k.parts pass v at).taker role in record {
    recorder = λ is. absurd (cc (role));
    taker = λ is. record {
      same = mine.same;
      made' = mine.made';
      taken' = ap (λ (l : List Offer). l ++ offer_of x ∷ []) mine.taken';
      known = subst (λ (l : List Offer). All (IsKnown k.made l) v.known) same_all mine.known;
    };
  }

  popped : Kept items (set views pass (takes v (offer_of x)))
  popped = record {
    recorders = k.recorders;
    made = k.made;
    taken = taken';
    room = k.room;
    parts = each_set (λ (u : View). IsPart k.recorders k.made taken' (taken' ++ offers_of items) u) views pass (takes v (offer_of x)) pop_mine pop_others;
    once = λ n. let t = total_set (holds n) views pass v (takes v (offer_of x)) at in
        let a = holds_taker n v role in let b = holds_taker n (takes v (offer_of x)) role in let o = k.once n in omega (arith, t, a, b, o);
    named = subst (λ (l : List Offer). All (IsNamed k.made) l) same_all k.named;
    rises = subst (λ (l : List Offer). Rises l) same_all k.rises;
  }

pub pops : (pass : ℕ) (v : View) → v.role ≡ Takes → Pops Kept pass v (λ x w. (w ≡ takes v (offer_of x)) × ((left : List Item) × IsBalanced w (offers_of left)))
pops pass v role x items views k at =
    let w : View = takes v (offer_of x) in
    let after = popped pass v role x items views k at in
    (w, after, (refl, (items, balances pass w role items (set views pass w) after (set_here views pass w (at_below views pass v at)))))

-- what holds of a part that was set, of a new one and of the others holds of all
each_snoc : (F : View → Type 0) (views : List View) (i : ℕ) (w new : View) → F w → F new → ((j : ℕ) (u : View) → j ≢ i → get_elem? views j ≡ some u → F u) → (j : ℕ) (u : View) → get_elem? (set views i w ++ new ∷ []) j ≡ some u → F u
each_snoc F views i w new mine here others j u e = ⊎_elim
    (λ (t : get_elem? (set views i w) j ≡ some u). each_set F views i w mine others j u t)
    (λ (t : new ≡ u). subst F t here)
    (at_snoc (set views i w) new u j e)

-- A recorder notes an offer that was refused.
module _ (pass : ℕ) (v : View) (o : Option Offer) (role : v.role ≡ Records) (items : List Item) (views : List View) (k : Kept items views) (at : get_elem? views pass ≡ some v) where
  abbrev n_all : List Offer
  n_all = k.taken ++ offers_of items

  n_mine : IsRecorder k.recorders k.made k.taken n_all v
  n_mine = (k.parts pass v at).recorder role

  n_noted : (p : Option Offer) → IsPart k.recorders k.made k.taken n_all (notes p v)
  n_noted None = k.parts pass v at
  n_noted (Some p) = record {
    recorder = λ is. record { same = n_mine.same; low = n_mine.low; high = n_mine.high; kept = n_mine.kept; gone = n_mine.gone };
    taker = λ is. absurd (cc (role));
  }

  n_same_holds : (n : ℕ) (p : Option Offer) → holds n (notes p v) ≡ holds n v
  n_same_holds n None = refl
  n_same_holds n (Some p) = let a = holds_recorder n v role in let b = holds_recorder n (notes (Some p) v) role in omega (arith, a, b)

  n_kept : Kept items (set views pass (notes o v) ++ spent ∷ [])
  n_kept = record {
    recorders = k.recorders;
    made = k.made;
    taken = k.taken;
    room = k.room;
    parts = each_snoc (λ (u : View). IsPart k.recorders k.made k.taken n_all u) views pass (notes o v) spent (n_noted o) (spent_part k.recorders k.made k.taken n_all) (λ j u ne e. k.parts j u e);
    once = λ n. let t = total_set (holds n) views pass v (notes o v) at in let s = total_snoc (holds n) (set views pass (notes o v)) spent in let a = n_same_holds n o in let b = k.once n in omega (arith, t, s, a, b);
    named = k.named;
    rises = k.rises;
  }

pub forks_note : (pass : ℕ) (v : View) (o : Option Offer) → v.role ≡ Records → Forks Kept pass v (notes o v) spent
forks_note pass v o role items views k at = n_kept pass v o role items views k at

-- The taker sets how many recorders there may be, before it has made one.
module _ (pass : ℕ) (v : View) (limit : ℕ) (role : v.role ≡ Takes) (none : v.made ≡ 0) (items : List Item) (views : List View) (k : Kept items views) (at : get_elem? views pass ≡ some v) where
  abbrev l_all : List Offer
  l_all = k.taken ++ offers_of items

  abbrev l_w : View
  l_w = limits (Some limit) v

  l_mine : IsTaker k.recorders k.made k.taken l_all v
  l_mine = (k.parts pass v at).taker role

  l_none_made : k.made ≡ 0
  l_none_made = sym l_mine.made' ∙ none

  l_mine_now : IsPart limit k.made k.taken l_all l_w
  l_mine_now = record {
    recorder = λ is. absurd (cc (role));
    taker = λ is. record { same = refl; made' = l_mine.made'; taken' = l_mine.taken'; known = l_mine.known };
  }

  l_others : (j : ℕ) (u : View) → j ≢ pass → get_elem? views j ≡ some u → IsPart limit k.made k.taken l_all u
  l_others j u ne e = record {
    recorder = λ is. let r = (k.parts j u e).recorder is in let l = r.low in let h = r.high in absurd (omega (arith, l, h, l_none_made));
    taker = λ is. absurd (alone views k.once pass j v u 0 ne at e (taker_one v role) (taker_one u is));
  }

  l_kept : Kept items (set views pass (limits (Some limit) v) ++ spent ∷ [])
  l_kept = record {
    recorders = limit;
    made = k.made;
    taken = k.taken;
    room = omega (arith, l_none_made);
    parts = each_snoc (λ (u : View). IsPart limit k.made k.taken l_all u) views pass l_w spent l_mine_now (spent_part limit k.made k.taken l_all) l_others;
    once = λ n. let t = total_set (holds n) views pass v l_w at in let s = total_snoc (holds n) (set views pass l_w) spent in let a = holds_taker n v role in let c = holds_taker n l_w role in let b = k.once n in omega (arith, t, s, a, b, c);
    named = k.named;
    rises = k.rises;
  }

pub forks_limit : (pass : ℕ) (v : View) (limit : ℕ) → v.role ≡ Takes → v.made ≡ 0 → Forks Kept pass v (limits (Some limit) v) spent
forks_limit pass v limit role none items views k at = l_kept pass v limit role none items views k at

-- The taker makes the next recorder.
module _ (pass : ℕ) (v : View) (role : v.role ≡ Takes) (room : v.made < v.recorders) (items : List Item) (views : List View) (k : Kept items views) (at : get_elem? views pass ≡ some v) where
  abbrev m_all : List Offer
  m_all = k.taken ++ offers_of items

  m_mine : IsTaker k.recorders k.made k.taken m_all v
  m_mine = (k.parts pass v at).taker role

  m_known_later : (r : Returned) → IsKnown k.made m_all r → IsKnown (k.made + 1) m_all r
  m_known_later r h = let l = h.high in record { low = h.low; high = omega (arith, l); kept = h.kept }

  m_mine_now : IsPart k.recorders (k.made + 1) k.taken m_all (makes v)
  m_mine_now = record {
    recorder = λ is. absurd (cc (role));
    taker = λ is. record { same = m_mine.same; made' = ap (λ (n : ℕ). n + 1) m_mine.made'; taken' = m_mine.taken'; known = λ i d lt. m_known_later (get_or v.known i d) (m_mine.known i d lt) };
  }

  m_none_of : by (v.made + 1) m_all ≡ []
  m_none_of = by_none (v.made + 1) m_all (λ i d lt e. let h = k.named i d lt in let m = m_mine.made' in omega (arith, h.1, m, e))

  m_newborn_now : IsPart k.recorders (k.made + 1) k.taken m_all (newborn v)
  m_newborn_now = record {
    recorder = λ is. let m = m_mine.made' in record { same = m_mine.same; low = omega arith; high = omega (arith, m); kept = m_none_of; gone = omega arith };
    taker = λ is. absurd (cc);
  }

  m_others : (j : ℕ) (u : View) → j ≢ pass → get_elem? views j ≡ some u → IsPart k.recorders (k.made + 1) k.taken m_all u
  m_others j u ne e = record {
    recorder = λ is. let r = (k.parts j u e).recorder is in let h = r.high in record { same = r.same; low = r.low; high = omega (arith, h); kept = r.kept; gone = r.gone };
    taker = λ is. absurd (alone views k.once pass j v u 0 ne at e (taker_one v role) (taker_one u is));
  }

  -- no view answers for the next number
  m_none_known : (rs : List Returned) → All (IsKnown k.made m_all) rs → times (v.made + 1) (numbers_known rs) ≡ 0
  m_none_known [] h = refl
  m_none_known (r ∷ rs) h =
      let here = All-head (IsKnown k.made m_all) r rs h in
      let high = here.high in
      let m = m_mine.made' in
      let t = times_other r.number (v.made + 1) (λ e. omega (arith, high, m, e)) in
      let later = m_none_known rs (Rattle.std.proofs.lemmas.List.Elements.All-tail (IsKnown k.made m_all) r rs h) in
      omega (arith, t, later)

  m_none_holds : (j : ℕ) (u : View) → get_elem? views j ≡ some u → holds (v.made + 1) u ≡ 0
  m_none_holds j u e = by_role u.role refl
    where
      by_role : (r : Role) → u.role ≡ r → holds (v.made + 1) u ≡ 0
      by_role Takes is =
          let t = (k.parts j u e).taker is in
          let a = holds_taker (v.made + 1) u is in
          let b = m_none_known u.known t.known in
          let c = times_other 0 (v.made + 1) (λ z. omega (arith, z)) in
          omega (arith, a, b, c)
      by_role Records is =
          let r = (k.parts j u e).recorder is in
          let high = r.high in
          let m = m_mine.made' in
          let a = holds_recorder (v.made + 1) u is in
          let c = times_other u.number (v.made + 1) (λ z. omega (arith, z, high, m)) in
          omega (arith, a, c)
      by_role Spent is = ap (λ (x : Role). times (v.made + 1) (numbers_of x u)) is

  m_once_now : (n : ℕ) → total (holds n) (set views pass (makes v) ++ newborn v ∷ []) ≤ 1
  m_once_now n =
      let t = total_set (holds n) views pass v (makes v) at in
      let s = total_snoc (holds n) (set views pass (makes v)) (newborn v) in
      let a = holds_taker n v role in
      let c = holds_taker n (makes v) role in
      let o = k.once n in
      ⊎_elim
      (λ (e : n ≡ v.made + 1).
      let z : total (holds n) views ≡ 0 = subst (λ (m : ℕ). total (holds m) views ≡ 0) (sym e) (total_none (holds (v.made + 1)) views m_none_holds) in
      let one = times_one n (v.made + 1) in
      omega (arith, t, s, a, c, z, one))
      (λ (ne : n ≢ v.made + 1).
      let z = times_other (v.made + 1) n (λ e. ne (sym e)) in
      omega (arith, t, s, a, c, o, z))
      (dec_eq n (v.made + 1))

  m_kept : Kept items (set views pass (makes v) ++ newborn v ∷ [])
  m_kept = record {
    recorders = k.recorders;
    made = k.made + 1;
    taken = k.taken;
    room = let s = m_mine.same in let m = m_mine.made' in omega (arith, room, s, m);
    parts = each_snoc (λ (u : View). IsPart k.recorders (k.made + 1) k.taken m_all u) views pass (makes v) (newborn v) m_mine_now m_newborn_now m_others;
    once = m_once_now;
    named = λ i d lt. let h = k.named i d lt in (h.0, omega (arith, h.1));
    rises = k.rises;
  }

-- The taker gives the one recorder back that it took in.
lent_few : (n recorders : ℕ) (taken : List Offer) (l : List Returned) → holds n (lent recorders taken l) ≤ times n (numbers_known l)
lent_few n recorders taken [] = omega arith
lent_few n recorders taken (r ∷ []) = omega arith
lent_few n recorders taken (r ∷ (s ∷ l)) = omega arith

module _ (pass : ℕ) (v : View) (role : v.role ≡ Takes) (items : List Item) (views : List View) (k : Kept items views) (at : get_elem? views pass ≡ some v) where
  abbrev g_all : List Offer
  g_all = k.taken ++ offers_of items

  g_mine : IsTaker k.recorders k.made k.taken g_all v
  g_mine = (k.parts pass v at).taker role

  g_mine_now : IsPart k.recorders k.made k.taken g_all (gives_back v)
  g_mine_now = record {
    recorder = λ is. absurd (cc (role));
    taker = λ is. record { same = g_mine.same; made' = g_mine.made'; taken' = g_mine.taken'; known = λ i d lt. absurd (omega (arith, lt)) };
  }

  g_lent : (l : List Returned) → All (IsKnown k.made g_all) l → IsPart k.recorders k.made k.taken g_all (lent v.recorders v.taken l)
  g_lent [] each = record { recorder = λ is. absurd (cc); taker = λ is. absurd (cc) }
  g_lent (r ∷ []) each = let h = each 0 r (omega arith) in record {
    recorder = λ is. record { same = g_mine.same; low = h.low; high = h.high; kept = h.kept; gone = let same = ap (λ (l : List Offer). length (by r.number l)) g_mine.taken' in omega (arith, same) };
    taker = λ is. absurd (cc);
  }
  g_lent (r ∷ (s ∷ l)) each = record { recorder = λ is. absurd (cc); taker = λ is. absurd (cc) }

  g_once : (n : ℕ) → total (holds n) (set views pass (gives_back v) ++ given_back v ∷ []) ≤ 1
  g_once n =
      let t = total_set (holds n) views pass v (gives_back v) at in
      let s = total_snoc (holds n) (set views pass (gives_back v)) (given_back v) in
      let a = holds_taker n v role in
      let b = holds_taker n (gives_back v) role in
      let c = times-append n (0 ∷ []) (numbers_known v.known) in
      let f = lent_few n v.recorders v.taken v.known in
      let o = k.once n in
      omega (arith, t, s, a, b, c, f, o)

  g_kept : Kept items (set views pass (gives_back v) ++ given_back v ∷ [])
  g_kept = record {
    recorders = k.recorders;
    made = k.made;
    taken = k.taken;
    room = k.room;
    parts = each_snoc (λ (u : View). IsPart k.recorders k.made k.taken g_all u) views pass (gives_back v) (given_back v) g_mine_now (g_lent v.known g_mine.known) (λ j u ne e. k.parts j u e);
    once = g_once;
    named = k.named;
    rises = k.rises;
  }

-- A recorder lends its pass.
lends : (pass : ℕ) (v : View) (items : List Item) (views : List View) (k : Kept items views) → get_elem? views pass ≡ some v → Kept items (set views pass spent ++ v ∷ [])
lends pass v items views k at = record {
  recorders = k.recorders;
  made = k.made;
  taken = k.taken;
  room = k.room;
  parts = each_snoc (λ (u : View). IsPart k.recorders k.made k.taken (k.taken ++ offers_of items) u) views pass spent v (spent_part k.recorders k.made k.taken (k.taken ++ offers_of items)) (k.parts pass v at) (λ j u ne e. k.parts j u e);
  once = λ n. let t = total_set (holds n) views pass v spent at in let s = total_snoc (holds n) (set views pass spent) v in let o = k.once n in omega (arith, t, s, o);
  named = k.named;
  rises = k.rises;
}

pub forks_lend : (pass : ℕ) (v : View) → Forks Kept pass v spent v
forks_lend pass v items views k at = lends pass v items views k at

pub forks_give_back : (pass : ℕ) (v : View) → v.role ≡ Takes → Forks Kept pass v (gives_back v) (given_back v)
forks_give_back pass v role items views k at = g_kept pass v role items views k at

pub forks_make : (pass : ℕ) (v : View) → v.role ≡ Takes → v.made < v.recorders → Forks Kept pass v (makes v) (newborn v)
forks_make pass v role room items views k at = m_kept pass v role room items views k at

-- The taker takes in what a recorder had offered.
module _ (pass : ℕ) (v : View) (other : ℕ) (u : View) (takes' : v.role ≡ Takes) (records : u.role ≡ Records) (items : List Item) (views : List View) (k : Kept items views) (at : get_elem? views pass ≡ some v) (two : ¬ (other ≡ pass)) (at' : get_elem? (set views pass (takes_in v u)) other ≡ some u) where
  abbrev j_all : List Offer
  j_all = k.taken ++ offers_of items

  abbrev j_both : View
  j_both = takes_in v u

  j_was : get_elem? views other ≡ some u
  j_was = ⊎_elim (λ (t : (other ≡ pass) × (j_both ≡ u)). absurd (two t.0)) (λ (t : (other ≢ pass) × (get_elem? views other ≡ some u)). t.1) (at_set views pass other j_both u at')

  j_mine : IsTaker k.recorders k.made k.taken j_all v
  j_mine = (k.parts pass v at).taker takes'

  j_theirs : IsRecorder k.recorders k.made k.taken j_all u
  j_theirs = (k.parts other u j_was).recorder records

  j_both_now : IsPart k.recorders k.made k.taken j_all j_both
  j_both_now = record {
    recorder = λ is. absurd (cc (takes'));
    taker = λ is. record {
      same = j_mine.same;
      made' = j_mine.made';
      taken' = j_mine.taken';
      known = All-push (IsKnown k.made j_all) v.known (returned u) j_mine.known (record { low = j_theirs.low; high = j_theirs.high; kept = j_theirs.kept });
    };
  }

  j_kept : Kept items (set (set views pass (takes_in v u)) other spent)
  j_kept = record {
    recorders = k.recorders;
    made = k.made;
    taken = k.taken;
    room = k.room;
    parts = each_set (λ (y : View). IsPart k.recorders k.made k.taken j_all y) (set views pass j_both) other spent (spent_part k.recorders k.made k.taken j_all)
        (λ j y ne e. each_set (λ (z : View). IsPart k.recorders k.made k.taken j_all z) views pass j_both j_both_now (λ i z apart h. k.parts i z h) j y e);
    once = λ n.
        let t = total_set (holds n) views pass v j_both at in
        let s = total_set (holds n) (set views pass j_both) other u spent at' in
        let a = holds_taker n v takes' in
        let b = holds_taker n j_both takes' in
        let c = holds_recorder n u records in
        let d : times n (numbers_known j_both.known) ≡ times n (numbers_known v.known) + times n (u.number ∷ []) =
        ap (λ (l : List ℕ). times n l) (map-append (λ (r : Returned). r.number) v.known (returned u ∷ [])) ∙ times-append n (numbers_known v.known) (u.number ∷ []) in
        let o = k.once n in
        omega (arith, t, s, a, b, c, d, o);
    named = k.named;
    rises = k.rises;
  }

pub merges : (pass : ℕ) (v : View) (other : ℕ) (u : View) → v.role ≡ Takes → u.role ≡ Records → Merges Kept pass v other u (takes_in v u) spent
merges pass v other u takes' records items views k at two at' = j_kept pass v other u takes' records items views k at two at'

-- the numbers taken of each recorder rise
pub rises_taken : (v : View) (left : List Offer) → IsBalanced v left → Rises v.taken
rises_taken v left b p = pairs_left (λ (x y : Offer). x.number < y.number) (by p v.taken) (by p left)
    (subst (λ (l : List Offer). AllPairs (λ x y. x.number < y.number) l) (filter-append (λ (x : Offer). Rattle.std.specs.Prelude.nat_eq x.recorder p) v.taken left) (b.rises p))

-- what was taken is of recorders that were made
pub named_taken : (v : View) (left : List Offer) → IsBalanced v left → All (IsNamed v.made) v.taken
named_taken v left b = all_left (IsNamed v.made) v.taken left b.named
