-- The steps of a watch at keys.
use Rattle.std.proofs.Common.{◌≡◌, ℕ, ◌-◌, List, [], ◌∷◌, ◌++◌, Bool, true, false, not, Option, Some, None, Ok, Err, refl, ap, sym, ◌∙◌, subst, ⊎_elim, inl, inr, append_assoc, append-nil, true≢false, arith}
use Rattle.std.specs.Io.KnownBytes.{Appends}
use Rattle.std.specs.List.{fold, list_all}
use Rattle.std.specs.Prelude.{is_some}
use Rattle.std.proofs.lemmas.List.Sums.{fold-append}
use Rattle.std.proofs.KnownBytes.{Appends-nil, Appends-trans}
use Rattle.tk_client.specs.declared.fault.Fault.{Fault}
use Rattle.tk_client.specs.Feeding.{ClientView}
use Rattle.tk_client.specs.Warnings.{LintsView}
use Rattle.tk_fault.specs.declared.fault.AppFault.{AppFault}
use Rattle.tk_fault.specs.declared.fault.AppFault.TheVariants as faults
use Rattle.tk_frame.specs.declared.keys.Asked.{Asked}
use Rattle.tk_frame.specs.Keys.{pressed}
use Rattle.tk_frame.specs.Shown.{asked_screen}
use Rattle.tk_reading.specs.Fronts.{tables_in}
use Rattle.tk_reading.specs.Outcomes.{outcome_of}
use Rattle.tk_reading.specs.Taken.{HasTaken}
use Rattle.tk_reading.proofs.ReadLemmas.{begins}
use Rattle.tk_stream.specs.Sent.{IsCut}
use Rattle.tk_stream.specs.Tables.{TablesView}
use Rattle.tk_stream.specs.Times.{TaskTimes}
use Rattle.tk_watch.specs.Keyed.{Coming, IsOver, Loses, Standing, WatchesKeys, after, asked_after, at_first, behind_in, broken, drawn, drawn_at, drawn_from, due, key, piece, shown_of, standing, is_no_key, text_at, text_of}
use Rattle.tk_watch.proofs.OddLemmas.{times_all}
use Rattle.tk_watch.specs.Course.{Sees}
use Rattle.tk_watch.specs.Drawing.{Sends}
use Rattle.tk_watch.specs.Keying.{Goes, Holds, IsFirst, Keying, SendsAt, Shows, Stands, held_then, holding, pressed_after, screen_after, screen_held}
use Rattle.tk_watch.specs.Odd.{odd_in, seen_in, times_in}
use Rattle.tk_watch.specs.Watching.{TakesTo}
use Rattle.tk_watch.specs.declared.drawing.Screen.{Screen}
use Rattle.tk_watch.specs.declared.seen.Course.{Course}
use Rattle.tk_watch.specs.declared.session.Held.{Held}
use Rattle.tk_watch.specs.declared.session.Session.{Session}

-- ---- what was to come

pub loses_none : {X : Type 0} (a : Option (List X)) → Loses a a []
loses_none None = tt
loses_none (Some xs) = refl

pub loses_on : {X : Type 0} (a b c : Option (List X)) (xs ys : List X) → Loses a b xs → Loses b c ys → Loses a c (xs ++ ys)
loses_on None b c xs ys p q = tt
loses_on (Some all) None c xs ys p q = absurd p
loses_on (Some all) (Some more) None xs ys p q = absurd q
loses_on (Some all) (Some more) (Some rest) xs ys p q = p ∙ ap (λ zs. xs ++ zs) q ∙ sym (append_assoc xs ys rest)

-- ---- one event more

pub standing_more : (screen : Screen) (events : List Coming) (e : Coming) → standing screen (events ++ e ∷ []) ≡ after screen (standing screen events) e
standing_more screen events e = fold-append (after screen) (at_first screen) events (e ∷ [])

drawn_from_more : (screen : Screen) (s : Standing) (events : List Coming) (e : Coming)
    → drawn_from screen s (events ++ e ∷ []) ≡ drawn_from screen s events ++ drawn_at screen (fold (after screen) s events) e
drawn_from_more screen s [] e = append-nil (drawn_at screen s e)
drawn_from_more screen s (x ∷ xs) e =
    ap (λ t. drawn_at screen s x ++ t) (drawn_from_more screen (after screen s x) xs e)
    ∙ sym (append_assoc (drawn_at screen s x) (drawn_from screen (after screen s x) xs) (drawn_at screen (fold (after screen) (after screen s x) xs) e))

pub drawn_more : (screen : Screen) (events : List Coming) (e : Coming)
    → drawn screen (events ++ e ∷ []) ≡ drawn screen events ++ drawn_at screen (standing screen events) e
drawn_more screen events e = drawn_from_more screen (at_first screen) events e

-- where this draws nothing
none_more : (screen : Screen) (events : List Coming) (e : Coming) → drawn_at screen (standing screen events) e ≡ [] → drawn screen (events ++ e ∷ []) ≡ drawn screen events
none_more screen events e none = drawn_more screen events e ∙ ap (λ t. drawn screen events ++ t) none ∙ append-nil (drawn screen events)

-- ---- a pause

stays_from : (screen : Screen) (s : Standing) (more : List Coming) → s.asked.paused ≡ true → list_all is_no_key more ≡ true
    → (n : ℕ) → text_at n screen (fold (after screen) s more) ≡ text_at n screen s
stays_from screen s [] paused none n = refl
stays_from screen s (piece p ∷ more) paused none n =
    stays_from screen (after screen s (piece p)) more paused none n
    ∙ ap (λ b. asked_screen screen.canvas screen.query (odd_in screen.lints (shown_of b s.shown (s.bytes ++ p))) s.asked n (tables_in (outcome_of (shown_of b s.shown (s.bytes ++ p)))) (times_in (shown_of b s.shown (s.bytes ++ p)))) paused
stays_from screen s (key k ∷ more) paused none n = absurd (true≢false (sym none))
stays_from screen s (due ∷ more) paused none n = stays_from screen s more paused none n
stays_from screen s (broken ∷ more) paused none n = stays_from screen s more paused none n

pub paused_stays : (screen : Screen) (events more : List Coming) → (standing screen events).asked.paused ≡ true → list_all is_no_key more ≡ true
    → (n : ℕ) → text_at n screen (standing screen (events ++ more)) ≡ text_at n screen (standing screen events)
paused_stays screen events more paused none n =
    ap (text_at n screen) (fold-append (after screen) (at_first screen) events more) ∙ stays_from screen (standing screen events) more paused none n

-- ---- what is held

module _ (lints : LintsView) where
  -- a piece more came
  holds_on : (paused : Bool) (shown all more : List ℕ) (held : Option Held) → Holds lints paused shown all held → Holds lints paused (shown_of paused shown more) more held
  holds_on paused shown all more None h = (h.0, subst (λ p. shown_of p shown more ≡ more) (sym h.0) refl)
  holds_on paused shown all more (Some x) h =
      let same : shown ≡ shown_of paused shown more = subst (λ p. shown ≡ shown_of p shown more) (sym h.0) refl in
      (h.0, h.1 ∙ ap (λ b. tables_in (outcome_of b)) same, h.2 ∙ ap (odd_in lints) same, h.3 ∙ ap times_in same)

  -- a pause began, or ended
  holds_turned : (tables : TablesView) (times : List TaskTimes) (paused next : Bool) (shown all : List ℕ) (held : Option Held) → tables_in (outcome_of all) ≡ tables
      → times_in all ≡ times → Holds lints paused shown all held
      → Holds lints next (shown_of next shown all) all (held_then next held (holding lints (seen_in all) tables times))
  holds_turned tables times paused false shown all held are beside h = (refl, refl)
  holds_turned tables times paused true shown all (Some x) are beside h = (refl, h.1, h.2, h.3)
  holds_turned tables times paused true shown all None are beside h =
      subst (λ t. Holds lints true shown all (Some (holding lints (seen_in all) t times))) are
      (subst (λ t. Holds lints true shown all (Some (holding lints (seen_in all) (tables_in (outcome_of all)) t))) beside
      (refl, ap (λ b. tables_in (outcome_of b)) (sym h.1), ap (odd_in lints) (sym h.1), ap times_in (sym h.1)))

-- what is held anew
pub held_new : (paused : Bool) (old : Option Held) (now h : Held) → paused ≡ true → is_some old ≡ false → h ≡ now → Some h ≡ held_then paused old now
held_new true None now h p n e = ap Some e
held_new true (Some x) now h p n e = absurd (true≢false n)
held_new false old now h p n e = absurd (true≢false (sym p))

-- what is shown of what is held
pub held_is : (screen : Screen) (st : Standing) (s : Session) (h : Held) → Shows screen.lints st s → s.held ≡ Some h
    → screen_held screen h s ≡ text_of screen st
held_is screen st s h shows is =
    let holds : Holds screen.lints st.asked.paused st.shown st.bytes (Some h) = subst (Holds screen.lints st.asked.paused st.shown st.bytes) is shows.holds in
    let now = s.course.client.start.tables.now in
    ap (λ o. asked_screen screen.canvas screen.query o s.asked (now - h.tables.now) h.tables h.times) holds.2
    ∙ ap (λ (x : List TaskTimes). asked_screen screen.canvas screen.query (odd_in screen.lints st.shown) s.asked (now - h.tables.now) h.tables x) holds.3
    ∙ ap (λ (t : TablesView). asked_screen screen.canvas screen.query (odd_in screen.lints st.shown) s.asked (now - t.now) t (times_in st.shown)) holds.1
    ∙ ap (λ (t : TablesView). asked_screen screen.canvas screen.query (odd_in screen.lints st.shown) s.asked (t.now - (tables_in (outcome_of st.shown)).now) (tables_in (outcome_of st.shown)) (times_in st.shown)) (sym shows.tables)
    ∙ ap (λ a. asked_screen screen.canvas screen.query (odd_in screen.lints st.shown) a (behind_in st) (tables_in (outcome_of st.shown)) (times_in st.shown)) shows.asked

-- or of what a client has come to
pub none_is : (screen : Screen) (st : Standing) (s : Session) → Shows screen.lints st s → s.held ≡ None
    → screen_after screen (seen_in st.bytes) s.asked s.course.client.start.tables s.course.client.start.times ≡ text_of screen st
none_is screen st s shows is =
    let holds : Holds screen.lints st.asked.paused st.shown st.bytes None = subst (Holds screen.lints st.asked.paused st.shown st.bytes) is shows.holds in
    let same : 0 ≡ behind_in st =
    subst (λ b. 0 ≡ (tables_in (outcome_of b)).now - (tables_in (outcome_of st.shown)).now) holds.1 (omega arith) in
    ap (λ (t : TablesView). screen_after screen (seen_in st.bytes) s.asked t s.course.client.start.times) (sym shows.tables)
    ∙ ap (screen_after screen (seen_in st.bytes) s.asked (tables_in (outcome_of st.bytes))) (sym shows.times)
    ∙ ap (λ b. asked_screen screen.canvas screen.query (odd_in screen.lints b) s.asked 0 (tables_in (outcome_of b)) (times_in b)) (sym holds.1)
    ∙ ap (λ n. asked_screen screen.canvas screen.query (odd_in screen.lints st.shown) s.asked n (tables_in (outcome_of st.shown)) (times_in st.shown)) same
    ∙ ap (λ a. asked_screen screen.canvas screen.query (odd_in screen.lints st.shown) a (behind_in st) (tables_in (outcome_of st.shown)) (times_in st.shown)) shows.asked

-- what keys ask for, while what is held is shown
pub held_pressed : (screen : Screen) (st : Standing) (s : Session) (h : Held) (k : ℕ) → Shows screen.lints st s → s.held ≡ Some h
    → pressed screen.canvas screen.query h.odd h.tables s.asked k ≡ asked_after screen st k
held_pressed screen st s h k shows is =
    let holds : Holds screen.lints st.asked.paused st.shown st.bytes (Some h) = subst (Holds screen.lints st.asked.paused st.shown st.bytes) is shows.holds in
    ap (λ o. pressed screen.canvas screen.query o h.tables s.asked k) holds.2
    ∙ ap (λ t. pressed screen.canvas screen.query (odd_in screen.lints st.shown) t s.asked k) holds.1
    ∙ ap (λ a. pressed screen.canvas screen.query (odd_in screen.lints st.shown) (tables_in (outcome_of st.shown)) a k) shows.asked

-- or what a client has come to
pub none_pressed : (screen : Screen) (st : Standing) (s : Session) (k : ℕ) → Shows screen.lints st s → s.held ≡ None
    → pressed_after screen (seen_in st.bytes) s.asked s.course.client.start.tables k ≡ asked_after screen st k
none_pressed screen st s k shows is =
    let holds : Holds screen.lints st.asked.paused st.shown st.bytes None = subst (Holds screen.lints st.asked.paused st.shown st.bytes) is shows.holds in
    ap (λ t. pressed_after screen (seen_in st.bytes) s.asked t k) (sym shows.tables)
    ∙ ap (λ b. pressed screen.canvas screen.query (odd_in screen.lints b) (tables_in (outcome_of b)) s.asked k) (sym holds.1)
    ∙ ap (λ a. pressed screen.canvas screen.query (odd_in screen.lints st.shown) (tables_in (outcome_of st.shown)) a k) shows.asked

-- ---- steps

-- nothing came
pub starts_keys : (screen : Screen) (old : Option (List ℕ)) (came : Option (List Coming)) (s : Session) → IsFirst screen s → Keying screen came came s old old
starts_keys screen old came s new = record {
  events = [];
  took = loses_none came;
  stands = record {
    taken = subst (λ n. HasTaken [] n s.course.client) (sym new.lines) (begins s.course.client new.course.client);
    shows = record {
      tables = ap (λ (c : ClientView). c.start.tables) (sym new.course.client);
      times = ap (λ (c : ClientView). c.start.times) (sym new.course.client);
      seen = new.course.seen;
      asked = new.asked;
      holds = subst (Holds screen.lints false [] []) (sym new.held) (refl, refl);
    };
  };
  on = ap (λ (a : Asked). a.quits) new.asked;
  wrote = Appends-nil old;
}

-- nothing was taken
pub none_came : (screen : Screen) (came : Option (List Coming)) (old : Option (List ℕ)) → WatchesKeys screen came came (Err faults.Memory) old old
none_came screen came old = record { events = []; more = []; took = loses_none came; wrote = Appends-nil old }

module _ (screen : Screen) (given left : Option (List Coming)) (s : Session) (old wrote : Option (List ℕ)) (w : Keying screen given left s old wrote) where
  -- what stands
  abbrev st : Standing
  st = standing screen w.events

  -- it stops, and nothing of what came last is drawn
  pub stops_keys : (new : Option (List Coming)) (e : Coming) → Loses left new (e ∷ []) → WatchesKeys screen given new (Err faults.Memory) old wrote
  stops_keys new e lost = record { events = w.events; more = e ∷ []; took = loses_on given left new w.events (e ∷ []) w.took lost; wrote = w.wrote }

  pub breaks_keys : (new : Option (List Coming)) (e : Coming) → Loses left new (e ∷ []) → WatchesKeys screen given new (Err faults.Read) old wrote
  breaks_keys new e lost = record { events = w.events; more = e ∷ []; took = loses_on given left new w.events (e ∷ []) w.took lost; wrote = w.wrote }

  pub gives_up : WatchesKeys screen given left (Err faults.Read) old wrote
  gives_up = record { events = w.events; more = []; took = subst (Loses given left) (sym (append-nil w.events)) w.took; wrote = w.wrote }

  -- nothing more comes
  pub ends_keys : (new : Option (List Coming)) → Loses left new [] → IsOver new → WatchesKeys screen given new (Ok tt) old wrote
  ends_keys new lost over = record {
    events = w.events;
    took = subst (Loses given new) (append-nil w.events) (loses_on given left new w.events [] w.took lost);
    ends = inr (over, ap (λ (a : Asked). a.quits) (sym w.stands.shows.asked) ∙ w.on);
    wrote = w.wrote;
  }

  -- a piece came
  pub takes_piece : (new : Option (List Coming)) (p : List ℕ) (sum : ℕ) (then : Course) → Loses left new (piece p ∷ []) → HasTaken (st.bytes ++ p) sum then.client
      → Sees screen.lints (seen_in (st.bytes ++ p)) then.seen → Keying screen given new (record s { course = then; lines = sum }) old wrote
  takes_piece new p sum then lost taken seen = record {
    events = w.events ++ piece p ∷ [];
    took = loses_on given left new w.events (piece p ∷ []) w.took lost;
    stands = subst (λ t. Stands screen.lints t (record s { course = then; lines = sum })) (sym (standing_more screen w.events (piece p))) (record {
      taken = taken;
      shows = record {
        tables = ap tables_in taken.took.came;
        times = times_all (st.bytes ++ p) sum then.client taken;
        seen = seen;
        asked = w.stands.shows.asked;
        holds = holds_on screen.lints st.asked.paused st.shown st.bytes (st.bytes ++ p) s.held w.stands.shows.holds;
      };
    });
    on = w.on;
    wrote = subst (Appends old wrote) (sym (none_more screen w.events (piece p) refl)) w.wrote;
  }

  -- a screen was due, and drawn
  pub draws_due : (new : Option (List Coming)) (then : Option (List ℕ)) → Loses left new (due ∷ []) → Sends (text_of screen st) (Ok tt) wrote then
      → Keying screen given new s old then
  draws_due new then lost sent = record {
    events = w.events ++ due ∷ [];
    took = loses_on given left new w.events (due ∷ []) w.took lost;
    stands = subst (λ t. Stands screen.lints t s) (sym (standing_more screen w.events due)) w.stands;
    on = w.on;
    wrote = subst (Appends old then) (sym (drawn_more screen w.events due)) (Appends-trans old wrote then (drawn screen w.events) (text_of screen st) w.wrote sent);
  }

  -- it could not be drawn
  pub draws_no_due : (new : Option (List Coming)) (then : Option (List ℕ)) (fault : AppFault) → Loses left new (due ∷ []) → Sends (text_of screen st) (Err fault) wrote then
      → WatchesKeys screen given new (Err fault) old then
  draws_no_due new then faults.Write lost sent = record {
    events = w.events;
    last = due;
    took = loses_on given left new w.events (due ∷ []) w.took lost;
    front = sent.0;
    cut = subst (λ t. IsCut (text_of screen t) sent.0) (sym (standing_more screen w.events due)) sent.1;
    wrote = Appends-trans old wrote then (drawn screen w.events) sent.0 w.wrote sent.2;
  }
  draws_no_due new then faults.Memory lost sent = subst (λ k. WatchesKeys screen given new (Err faults.Memory) old k) (sym sent) (stops_keys new due lost)
  draws_no_due new then faults.Read lost sent = absurd sent
  draws_no_due new then (faults.Stream n fault) lost sent = absurd sent
  draws_no_due new then (faults.Script line name) lost sent = absurd sent

  -- a key was pressed
  module _ (new : Option (List Coming)) (k : ℕ) (lost : Loses left new (key k ∷ [])) (then : Session) (asked : then.asked ≡ asked_after screen st k)
      (same : then.course ≡ s.course) (lines : then.lines ≡ s.lines)
      (turns : then.held ≡ held_then then.asked.paused s.held (holding screen.lints (seen_in st.bytes) s.course.client.start.tables s.course.client.start.times)) where
    asked_is : then.asked ≡ (standing screen (w.events ++ key k ∷ [])).asked
    asked_is = asked ∙ ap (λ (t : Standing). t.asked) (sym (standing_more screen w.events (key k)))

    stands_then : Stands screen.lints (after screen st (key k)) then
    stands_then =
        let is : then.asked ≡ (after screen st (key k)).asked = asked_is ∙ ap (λ (t : Standing). t.asked) (standing_more screen w.events (key k)) in
        record {
          taken = subst (λ n. HasTaken st.bytes n then.course.client) (sym lines) (subst (λ (c : Course). HasTaken st.bytes s.lines c.client) (sym same) w.stands.taken);
          shows = record {
            tables = w.stands.shows.tables ∙ ap (λ (c : Course). c.client.start.tables) (sym same);
            times = w.stands.shows.times ∙ ap (λ (c : Course). c.client.start.times) (sym same);
            seen = subst (λ (c : Course). Sees screen.lints (seen_in st.bytes) c.seen) (sym same) w.stands.shows.seen;
            asked = is;
            holds = subst (λ (a : Asked). Holds screen.lints a.paused (shown_of a.paused st.shown st.bytes) st.bytes then.held) is
                (subst (Holds screen.lints then.asked.paused (shown_of then.asked.paused st.shown st.bytes) st.bytes) (sym turns)
                (holds_turned screen.lints s.course.client.start.tables s.course.client.start.times st.asked.paused then.asked.paused st.shown st.bytes s.held w.stands.shows.tables w.stands.shows.times
                w.stands.shows.holds));
          };
        }

    wrote_then : Appends old wrote (drawn screen (w.events ++ key k ∷ []))
    wrote_then = subst (Appends old wrote) (sym (none_more screen w.events (key k) refl)) w.wrote

    pub goes_on_keys : then.asked.quits ≡ false → Keying screen given new then old wrote
    goes_on_keys on = record {
      events = w.events ++ key k ∷ [];
      took = loses_on given left new w.events (key k ∷ []) w.took lost;
      stands = subst (λ t. Stands screen.lints t then) (sym (standing_more screen w.events (key k))) stands_then;
      on = on;
      wrote = wrote_then;
    }

    pub quits_keys : then.asked.quits ≡ true → WatchesKeys screen given new (Ok tt) old wrote
    quits_keys off = record {
      events = w.events ++ key k ∷ [];
      took = loses_on given left new w.events (key k ∷ []) w.took lost;
      ends = inl (record {
        before = w.events;
        last = key k;
        whole = refl;
        on = ap (λ (a : Asked). a.quits) (sym w.stands.shows.asked) ∙ w.on;
        off = ap (λ (a : Asked). a.quits) (sym asked_is) ∙ off;
      });
      wrote = wrote_then;
    }

    pub goes_by : (b : Bool) → then.asked.quits ≡ b → Goes screen given new (Ok (not b)) then old wrote
    goes_by true off = quits_keys off
    goes_by false on = goes_on_keys on

  -- a piece came that has a fault
  module _ (new : Option (List Coming)) (p : List ℕ) (lost : Loses left new (piece p ∷ [])) (next : Course) where
    -- the session shows what stood before the fault
    shows_faulty : (n : ℕ) (fault : Fault) → TakesTo screen.lints (st.bytes ++ p) (Err (faults.Stream n fault)) next
        → Shows screen.lints (standing screen (w.events ++ piece p ∷ [])) (record s { course = next })
    shows_faulty n fault h = subst (λ t. Shows screen.lints t (record s { course = next })) (sym (standing_more screen w.events (piece p))) (record {
      tables = ap tables_in h.1;
      times = h.3;
      seen = h.2;
      asked = w.stands.shows.asked;
      holds = holds_on screen.lints st.asked.paused st.shown st.bytes (st.bytes ++ p) s.held w.stands.shows.holds;
    })

    faulty_by : (n : ℕ) (fault : Fault) (then : Option (List ℕ)) → TakesTo screen.lints (st.bytes ++ p) (Err (faults.Stream n fault)) next
        → Sends (text_of screen (standing screen (w.events ++ piece p ∷ []))) (Ok tt) wrote then → WatchesKeys screen given new (Err (faults.Stream n fault)) old then
    faulty_by n fault then h sent = record {
      events = w.events ++ piece p ∷ [];
      took = loses_on given left new w.events (piece p ∷ []) w.took lost;
      tables = next.client.start.tables;
      used = h.0;
      stop = ap (λ (t : Standing). outcome_of t.bytes) (standing_more screen w.events (piece p)) ∙ h.1;
      wrote = subst (λ d. Appends old then (d ++ text_of screen (standing screen (w.events ++ piece p ∷ [])))) (sym (none_more screen w.events (piece p) refl))
          (Appends-trans old wrote then (drawn screen w.events) (text_of screen (standing screen (w.events ++ piece p ∷ []))) w.wrote sent);
    }

    faulty_without : (stop : AppFault) (then : Option (List ℕ)) → Sends (text_of screen (standing screen (w.events ++ piece p ∷ []))) (Err stop) wrote then
        → WatchesKeys screen given new (Err stop) old then
    faulty_without faults.Write then sent = record {
      events = w.events;
      last = piece p;
      took = loses_on given left new w.events (piece p ∷ []) w.took lost;
      front = sent.0;
      cut = sent.1;
      wrote = Appends-trans old wrote then (drawn screen w.events) sent.0 w.wrote sent.2;
    }
    faulty_without faults.Memory then sent = subst (λ k. WatchesKeys screen given new (Err faults.Memory) old k) (sym sent) (stops_keys new (piece p) lost)
    faulty_without faults.Read then sent = absurd sent
    faulty_without (faults.Stream m f) then sent = absurd sent
    faulty_without (faults.Script line name) then sent = absurd sent

    pub faulty_piece : (fault answer : AppFault) (then : Option (List ℕ)) → TakesTo screen.lints (st.bytes ++ p) (Err fault) next
        → SendsAt screen (record s { course = next }) fault answer wrote then → WatchesKeys screen given new (Err answer) old then
    faulty_piece faults.Memory answer then h d =
        subst (λ a. WatchesKeys screen given new (Err a) old then) (sym d.0)
        (subst (λ k. WatchesKeys screen given new (Err faults.Memory) old k) (sym d.1) (stops_keys new (piece p) lost))
    faulty_piece faults.Read answer then h d = absurd h
    faulty_piece faults.Write answer then h d = absurd h
    faulty_piece (faults.Script line name) answer then h d = absurd h
    faulty_piece (faults.Stream n fault) answer then h d =
        ⊎_elim (λ q. subst (λ a. WatchesKeys screen given new (Err a) old then) (sym q.0) (faulty_by n fault then h q.1)) (λ q. faulty_without answer then q)
        (d (standing screen (w.events ++ piece p ∷ [])) (shows_faulty n fault h))
