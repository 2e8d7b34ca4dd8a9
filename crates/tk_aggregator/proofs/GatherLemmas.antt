-- Events that came, one after the other.
use Rattle.std.proofs.Common.{◌≡◌, ℕ, List, [], ◌∷◌, ◌++◌, Some, None, refl, sym, ap, ap₂, ◌∙◌, subst, append_assoc, append-nil}
use Rattle.std.specs.Prelude.{Option, IfSome, IfNone, map}
use Rattle.std.proofs.lemmas.List.{map-append}
use Rattle.tk_events.specs.Handles.{Taking, with_taken}
use Rattle.tk_events.specs.Offers.{shown}
use Rattle.tk_events.specs.declared.event.Event.{Event}
use Rattle.tk_events.specs.declared.event.Event.TheVariants as events
use Rattle.tk_events.specs.declared.item.Offer.{Offer}
use Rattle.tk_aggregator.specs.Aggregates.{Aggregating, Collects, Comes, Gathers, TookMore, TakesIn, TakesAllIn, held_events, free}
use Rattle.tk_stream.specs.Tables.{task_with, resource_with, op_with}

pub comes_held : (a : Aggregating) (t : Taking) (e : Event) (now : Option Event) → a.held ≡ Some e → now ≡ None → Comes a t e (record a { held = now }) t
comes_held a t e now is none = record {
  came = [];
  offers = [];
  are_offered = refl;
  taker = λ i. record t { taken = sym (append-nil t.taken) i };
  in_order = ap (λ h. held_events h ++ []) is;
  now = λ i. record a { held = none i };
}

pub comes_taken : (a : Aggregating) (t u : Taking) (e : Event) (now : Option Event) (recorder number : ℕ) → a.held ≡ None → now ≡ None
    → u ≡ with_taken t (record { recorder = recorder; number = number; event = shown e }) → Comes a t e (record a { held = now }) u
comes_taken a t u e now recorder number is none taken = record {
  came = e ∷ [];
  offers = record { recorder = recorder; number = number; event = shown e } ∷ [];
  are_offered = refl;
  taker = taken;
  in_order = ap (λ h. held_events h ++ e ∷ []) is;
  now = λ i. record a { held = none i };
}

pub none_came : (a : Aggregating) (t : Taking) → Gathers a t [] a t
none_came a t = record {
  came = [];
  offers = [];
  are_offered = refl;
  taker = λ i. record t { taken = sym (append-nil t.taken) i };
  in_order = append-nil (held_events a.held);
  taken_in = refl;
}

by_option : {X : Type 0} (o : Option X) (P Q G : Type 0) → IfSome o (λ there. P) → IfNone o Q → (P → G) → (Q → G) → G
by_option (Some x) P Q G p q f h = f p
by_option None P Q G p q f h = h q

takes_held : (old : Aggregating) (e : Event) (new : Aggregating) → TakesIn old e new → new.held ≡ old.held
takes_held old (events.Task info handle) new p = by_option (task_with info.id old.tables.tasks) _ _ (new.held ≡ old.held) p.0 p.1 (λ q. ap (λ x. x.held) q) (λ q. ap (λ x. x.held) q.3)
takes_held old (events.Resource info handle) new p = by_option (resource_with info.id old.tables.resources) _ _ (new.held ≡ old.held) p.0 p.1 (λ q. ap (λ x. x.held) q) (λ q. ap (λ x. x.held) q.3)
takes_held old (events.Op info handle) new p = by_option (op_with info.id old.tables.ops) _ _ (new.held ≡ old.held) p.0 p.1 (λ q. ap (λ x. x.held) q) (λ q. ap (λ x. x.held) q.3)
takes_held old (events.Poll op) new p = ap (λ x. x.held) p

takes_one_more : (old : Aggregating) (es : List Event) (e : Event) (mid new : Aggregating) → TakesAllIn old es mid → TakesIn mid e new → TakesAllIn old (es ++ e ∷ []) new
takes_one_more old [] e mid new all one = (new, subst (λ x. TakesIn x e new) all one, refl)
takes_one_more old (x ∷ es) e mid new all one = (all.0, all.1, takes_one_more all.0 es e mid new all.2 one)

taker_on : (t u v : Taking) (xs ys : List Offer) → u ≡ record t { taken = t.taken ++ xs } → v ≡ record u { taken = u.taken ++ ys } → v ≡ record t { taken = t.taken ++ (xs ++ ys) }
taker_on t u v xs ys e f = f ∙ ap (λ (x : Taking). record x { taken = x.taken ++ ys }) e ∙ (λ i. record t { taken = append_assoc t.taken xs ys i })

module _ (a : Aggregating) (t : Taking) (taken : List Event) (b : Aggregating) (u : Taking) (e : Event) (c : Aggregating) (v : Taking) (g : Gathers a t taken b u) (k : Comes b u e c v) where
  came_on : held_events a.held ++ (g.came ++ k.came) ≡ taken ++ e ∷ []
  came_on = sym (append_assoc (held_events a.held) g.came k.came) ∙ ap (λ es. es ++ k.came) g.in_order ∙ append_assoc taken (held_events b.held) k.came ∙ ap (λ es. taken ++ es) k.in_order

  offered_on : map (λ (o : Offer). o.event) (g.offers ++ k.offers) ≡ map shown (g.came ++ k.came)
  offered_on = map-append (λ (o : Offer). o.event) g.offers k.offers ∙ ap₂ (λ xs ys. xs ++ ys) g.are_offered k.are_offered ∙ sym (map-append shown g.came k.came)

  none_now : c.held ≡ None
  none_now = ap (λ x. x.held) k.now

  -- one more is taken in
  pub gathers_more : (d : Aggregating) → TakesIn c e d → Gathers a t (taken ++ e ∷ []) d v
  gathers_more d one =
      let none : d.held ≡ None = takes_held c e d one ∙ none_now in
      record {
        came = g.came ++ k.came;
        offers = g.offers ++ k.offers;
        are_offered = offered_on;
        taker = taker_on t u v g.offers k.offers g.taker k.taker;
        in_order = came_on ∙ sym (append-nil (taken ++ e ∷ [])) ∙ ap (λ h. (taken ++ e ∷ []) ++ held_events h) (sym none);
        taken_in = takes_one_more (free a) taken e (free b) (free d) g.taken_in
            (subst (λ x. TakesIn x e (free d)) k.now (subst (λ x. TakesIn c e x) (λ i. record d { held = none i }) one));
      }

  pub none_held : (d : Aggregating) → TakesIn c e d → d.held ≡ None
  none_held d one = takes_held c e d one ∙ none_now

  -- it is held
  pub gathers_held : Gathers a t taken (record c { held = Some e }) v
  gathers_held = record {
    came = g.came ++ k.came;
    offers = g.offers ++ k.offers;
    are_offered = offered_on;
    taker = taker_on t u v g.offers k.offers g.taker k.taker;
    in_order = came_on;
    taken_in = subst (λ (x : Aggregating). TakesAllIn (free a) taken (free x)) (sym k.now) g.taken_in;
  }

-- ---- the taker

-- what a taker that took more keeps
pub gathers_took : (a : Aggregating) (t : Taking) (taken : List Event) (b : Aggregating) (u : Taking) → Gathers a t taken b u → TookMore t u
gathers_took a t taken b u g = record {
  console = ap (λ (x : Taking). x.console) g.taker;
  capacity = ap (λ (x : Taking). x.capacity) g.taker;
  recorders = ap (λ (x : Taking). x.recorders) g.taker;
  known = ap (λ (x : Taking). x.known) g.taker;
  finished = ap (λ (x : Taking). x.finished) g.taker;
}

pub collects_took : (a : Aggregating) (t : Taking) (limit count : ℕ) (b : Aggregating) (u : Taking) → Collects a t limit count b u → TookMore t u
collects_took a t limit count b u k =
    let m = gathers_took a t k.gathering.taken k.gathered k.taker k.gathering.gathers in
    let e = k.totals.same in
    record {
      console = ap (λ (x : Taking). x.console) e ∙ m.console;
      capacity = ap (λ (x : Taking). x.capacity) e ∙ m.capacity;
      recorders = ap (λ (x : Taking). x.recorders) e ∙ m.recorders;
      known = ap (λ (x : Taking). x.known) e ∙ m.known;
      finished = ap (λ (x : Taking). x.finished) e ∙ m.finished;
    }
