-- The steps of a watch.
use Rattle.std.proofs.Common.{◌≡◌, ℕ, ◌≤◌, ◌<◌, List, [], ◌∷◌, ◌++◌, length, Bool, true, false, Option, Some, None, Ok, Err, refl, ap, ap₂, sym, ◌∙◌, subst, ⊎_elim, append-nil, true≢false, arith}
use Rattle.std.specs.List.{list_any}
use Rattle.std.specs.Prelude.{flat_map}
use Rattle.std.specs.Io.KnownBytes.{Appends, Consumes, Keeps}
use Rattle.std.proofs.KnownBytes.{Appends-nil, Appends-trans, Consumes-kept, Consumes-nil, Consumes-trans}
use Rattle.std.proofs.lemmas.Bool.{le-ltb}
use Rattle.std.proofs.lemmas.List.Concat.{flat_map-append}
use Rattle.tk_client.specs.declared.fault.Fault.{Fault}
use Rattle.tk_fault.specs.declared.fault.AppFault.{AppFault}
use Rattle.tk_fault.specs.declared.fault.AppFault.TheVariants as faults
use Rattle.tk_reading.specs.Fronts.{last_lines, lines_in, tables_in}
use Rattle.tk_reading.specs.Outcomes.{AreAll, outcome_of}
use Rattle.tk_reading.specs.Pacing.{Says}
use Rattle.tk_reading.specs.Taken.{HasTaken}
use Rattle.tk_reading.proofs.FrontLemmas.{ends_at_all, last_more, rise_more, rise_on}
use Rattle.tk_reading.proofs.ReadLemmas.{begins}
use Rattle.tk_stream.specs.Sent.{IsCut}
use Rattle.tk_watch.specs.Course.{IsNew, Sees}
use Rattle.tk_watch.specs.Drawing.{DrawsAt, Sends, text_of}
use Rattle.tk_watch.specs.Odd.{seen_in}
use Rattle.tk_watch.specs.Turns as turns
use Rattle.tk_watch.specs.Turns.{Drawn, IsPaced, drawn_if, has_new, is_more, rested, with_piece}
use Rattle.tk_watch.specs.Watches.{Watches, WritesSome, screen_of}
use Rattle.tk_watch.specs.Watching.{Asks, Covers, TakesTo, Watching}
use Rattle.tk_watch.specs.declared.drawing.Screen.{Screen}
use Rattle.tk_watch.specs.declared.seen.Course.{Course}
use Rattle.tk_watch.proofs.OddLemmas.{seen_same}
use Rattle.tk_watch.proofs.TurnLemmas.{all_drawn, goes_on, is_begun, new_by, none_new, says_none, says_nothing}

-- ---- steps

-- a text more
texts_more : (text : List ℕ → List ℕ) (fronts : List (List ℕ)) (bytes : List ℕ) → flat_map text (fronts ++ bytes ∷ []) ≡ flat_map text fronts ++ text bytes
texts_more text fronts bytes = flat_map-append text fronts (bytes ∷ []) ∙ ap (λ xs. flat_map text fronts ++ xs) (append-nil (text bytes))

-- nothing was read, and nothing drawn
pub none_drawn : (screen : Screen) (given old : Option (List ℕ)) → WritesSome screen given given old old
none_drawn screen given old = record { bytes = []; read = Consumes-nil given; fronts = []; rise = tt; wrote = Appends-nil old }

-- nothing was read
pub starts : (screen : Screen) (given old : Option (List ℕ)) (c : Course) (said : Option (List Bool)) → IsNew screen.lints c → Watching screen given given 0 None [] c old old said said
starts screen given old c said is = record {
  bytes = [];
  read = Consumes-nil given;
  taken = begins c.client is.client;
  seen = is.seen;
  fronts = [];
  rise = tt;
  last = refl;
  wrote = Appends-nil old;
  before = [];
  whole = refl;
  short = omega arith;
  paced = is_begun said;
}

-- the last screen has all lines, so none came since
pub is_covered : (drawn : Option ℕ) (lines : ℕ) → Covers drawn lines → is_more drawn lines ≡ false
is_covered None lines c = absurd c
is_covered (Some most) lines c = le-ltb most lines c

module _ (screen : Screen) (given left old : Option (List ℕ)) (lines : ℕ) (drawn : Option ℕ) (part : List ℕ) (now : Course) (wrote : Option (List ℕ)) (said told : Option (List Bool)) (w : Watching screen given left lines drawn part now old wrote said told) where
  -- where no part is left, the pace was asked after all that was read
  all_asked : part ≡ [] → w.before ≡ w.bytes
  all_asked none = sym (append-nil w.before) ∙ ap (λ p. w.before ++ p) (sym none) ∙ sym w.whole

  paced_to : part ≡ [] → IsPaced said told (record { bytes = w.bytes; fronts = w.fronts })
  paced_to none = subst (λ bs. IsPaced said told (record { bytes = bs; fronts = w.fronts })) (all_asked none) w.paced

  -- a piece more was read, and taken
  pub takes_more : part ≡ [] → (new : Option (List ℕ)) (piece : List ℕ) (sum : ℕ) (then : Course) → length piece ≤ 65536 → Consumes left new piece → HasTaken (w.bytes ++ piece) sum then.client
      → Sees screen.lints (seen_in (w.bytes ++ piece)) then.seen → Watching screen given new sum drawn piece then old wrote said told
  takes_more none new piece sum then short read taken seen = record {
    bytes = w.bytes ++ piece;
    read = Consumes-trans given left new w.bytes piece w.read read;
    taken = taken;
    seen = seen;
    fronts = w.fronts;
    rise = rise_on w.fronts w.bytes piece w.rise;
    last = w.last;
    wrote = w.wrote;
    before = w.bytes;
    whole = refl;
    short = short;
    paced = paced_to none;
  }

  -- nothing more was read
  pub keeps_on : part ≡ [] → (new : Option (List ℕ)) → Consumes left new [] → Watching screen given new lines drawn [] now old wrote said told
  keeps_on none new read = takes_more none new [] lines now (omega arith) read (subst (λ xs. HasTaken xs lines now.client) (sym (append-nil w.bytes)) w.taken)
      (subst (λ xs. Sees screen.lints (seen_in xs) now.seen) (sym (append-nil w.bytes)) w.seen)

  -- it stops for want of memory, or as the reader fails
  pub stops_some : (new : Option (List ℕ)) (told' : Option (List Bool)) → Keeps left new → Watches screen given new (Err faults.Read) old wrote said told'
  stops_some new told' kept = record { bytes = w.bytes; read = Consumes-kept given left new w.bytes w.read kept; fronts = w.fronts; rise = w.rise; wrote = w.wrote }

  pub stops_here : (told' : Option (List Bool)) → Watches screen given left (Err faults.Read) old wrote said told'
  stops_here told' = record { bytes = w.bytes; read = w.read; fronts = w.fronts; rise = w.rise; wrote = w.wrote }

  pub stops_without : (new : Option (List ℕ)) (piece : List ℕ) → Consumes left new piece → Watches screen given new (Err faults.Memory) old wrote said told
  stops_without new piece read = record {
    bytes = w.bytes ++ piece;
    read = Consumes-trans given left new w.bytes piece w.read read;
    fronts = w.fronts;
    rise = rise_on w.fronts w.bytes piece w.rise;
    wrote = w.wrote;
  }

  tables_are : tables_in (outcome_of w.bytes) ≡ now.client.start.tables
  tables_are = ap tables_in w.taken.took.came

  lines_are : lines_in (outcome_of w.bytes) ≡ lines
  lines_are = ap lines_in w.taken.took.came

  -- the pace said nothing since
  pub says_no_more : (told' : Option (List Bool)) → Says told told' [] → Watching screen given left lines drawn part now old wrote said told'
  says_no_more told' silent = record {
    bytes = w.bytes;
    read = w.read;
    taken = w.taken;
    seen = w.seen;
    fronts = w.fronts;
    rise = w.rise;
    last = w.last;
    wrote = w.wrote;
    before = w.before;
    whole = w.whole;
    short = w.short;
    paced = says_none said told told' (record { bytes = w.before; fronts = w.fronts }) w.paced silent;
  }

  -- ---- turns

  -- what was drawn before this part
  had : Drawn
  had = record { bytes = w.before; fronts = w.fronts }

  new_here : has_new (with_piece part had) ≡ is_more drawn lines
  unfolding had
  new_here = ap (λ bs. is_more (last_lines w.fronts) (lines_in (outcome_of bs))) (sym w.whole) ∙ ap₂ is_more w.last lines_are

  -- a turn with this part, after which nothing is drawn
  paced_undrawn : (told' : Option (List Bool)) (more : List Bool) → Says told told' more → list_any (λ b. b) more ≡ false → (is_more drawn lines ≡ true → 1 ≤ length more)
      → IsPaced said told' (record { bytes = w.bytes; fronts = w.fronts })
  unfolding had
  paced_undrawn told' more says none asked =
      subst (IsPaced said told') (ap (λ b. drawn_if b (with_piece part had)) none ∙ ap (λ bs. record { bytes = bs; fronts = w.fronts }) (sym w.whole))
      (goes_on said told told' had (turns.read part more) w.paced (w.short, λ new. asked (sym new_here ∙ new)) (subst (Says told told') (sym (append-nil more)) says))

  -- a turn with this part, after which all is drawn
  paced_drawn : (told' : Option (List Bool)) (more : List Bool) → Says told told' more → list_any (λ b. b) more ≡ true → 1 ≤ length more → is_more drawn lines ≡ true
      → IsPaced said told' (record { bytes = w.bytes; fronts = w.fronts ++ w.bytes ∷ [] })
  unfolding had
  paced_drawn told' more says may asked new =
      subst (IsPaced said told')
      (ap (λ b. drawn_if b (with_piece part had)) may ∙ all_drawn (with_piece part had) (new_here ∙ new) ∙ ap (λ bs. record { bytes = bs; fronts = w.fronts ++ bs ∷ [] }) (sym w.whole))
      (goes_on said told told' had (turns.read part more) w.paced (w.short, λ _. asked) (subst (Says told told') (sym (append-nil more)) says))

  -- the reader has no more, and no line came since the last screen
  rested_undrawn : part ≡ [] → is_more drawn lines ≡ false → IsPaced said told (record { bytes = w.bytes; fronts = w.fronts })
  rested_undrawn none old_one =
      let d : Drawn = record { bytes = w.bytes; fronts = w.fronts } in
      subst (IsPaced said told) (none_new true d (ap₂ is_more w.last lines_are ∙ old_one)) (goes_on said told told d rested (paced_to none) tt (says_nothing told))

  rested_drawn : part ≡ [] → is_more drawn lines ≡ true → IsPaced said told (record { bytes = w.bytes; fronts = w.fronts ++ w.bytes ∷ [] })
  rested_drawn none new =
      let d : Drawn = record { bytes = w.bytes; fronts = w.fronts } in
      subst (IsPaced said told) (all_drawn d (ap₂ is_more w.last lines_are ∙ new)) (goes_on said told told d rested (paced_to none) tt (says_nothing told))

  -- ---- screens

  -- nothing was drawn
  draws_none : (told' : Option (List Bool)) → IsPaced said told' (record { bytes = w.bytes; fronts = w.fronts }) → Watching screen given left lines drawn [] now old wrote said told'
  draws_none told' paced = record {
    bytes = w.bytes;
    read = w.read;
    taken = w.taken;
    seen = w.seen;
    fronts = w.fronts;
    rise = w.rise;
    last = w.last;
    wrote = w.wrote;
    before = w.bytes;
    whole = sym (append-nil w.bytes);
    short = omega arith;
    paced = paced;
  }

  -- a screen was drawn
  draws_one : (new : Option (List ℕ)) (told' : Option (List Bool)) → Sends (text_of screen (seen_in w.bytes) now.client.start.tables) (Ok tt) wrote new → ((most : ℕ) → drawn ≡ Some most → most < lines)
      → IsPaced said told' (record { bytes = w.bytes; fronts = w.fronts ++ w.bytes ∷ [] }) → Watching screen given left lines (Some lines) [] now old new said told'
  draws_one new told' drew below paced = record {
    bytes = w.bytes;
    read = w.read;
    taken = w.taken;
    seen = w.seen;
    fronts = w.fronts ++ w.bytes ∷ [];
    rise = rise_more w.fronts w.bytes w.rise (λ most is. subst (λ n. most < n) (sym lines_are) (below most (sym w.last ∙ is)));
    last = last_more w.fronts w.bytes ∙ ap Some lines_are;
    wrote = subst (Appends old new) (sym (texts_more (screen_of screen) w.fronts w.bytes))
        (Appends-trans old wrote new (flat_map (screen_of screen) w.fronts) (screen_of screen w.bytes) w.wrote (subst (λ t. Appends wrote new (text_of screen (seen_in w.bytes) t)) (sym tables_are) drew));
    before = w.bytes;
    whole = sym (append-nil w.bytes);
    short = omega arith;
    paced = paced;
  }

  -- after a piece no line is new, so nobody is asked
  pub stays_old : Covers drawn lines → Watching screen given left lines drawn [] now old wrote said told
  stays_old covers = draws_none told (paced_undrawn told [] (says_nothing told) refl (λ new. absurd (true≢false (sym new ∙ is_covered drawn lines covers))))

  -- after a piece the pace says that no screen may be drawn
  pub stays_so : (told' : Option (List Bool)) → Asks told told' false → Watching screen given left lines drawn [] now old wrote said told'
  stays_so told' asks = draws_none told' (paced_undrawn told' asks.0 asks.1 asks.2 (λ _. asks.3))

  -- after a piece a screen was drawn, as the pace says that it may be
  pub draws_more : (new : Option (List ℕ)) (told' then : Option (List Bool)) → Sends (text_of screen (seen_in w.bytes) now.client.start.tables) (Ok tt) wrote new
      → ((most : ℕ) → drawn ≡ Some most → most < lines) → Asks told told' true → Says told' then [] → Watching screen given left lines (Some lines) [] now old new said then
  draws_more new told' then drew below asks silent =
      draws_one new then drew below
      (says_none said told' then (record { bytes = w.bytes; fronts = w.fronts ++ w.bytes ∷ [] }) (paced_drawn told' asks.0 asks.1 asks.2 asks.3 (new_by drawn lines below)) silent)

  -- the reader has no more, and a screen was drawn
  pub draws_last : part ≡ [] → (new : Option (List ℕ)) → Sends (text_of screen (seen_in w.bytes) now.client.start.tables) (Ok tt) wrote new
      → ((most : ℕ) → drawn ≡ Some most → most < lines) → Watching screen given left lines (Some lines) [] now old new said told
  draws_last none new drew below = draws_one new told drew below (rested_drawn none (new_by drawn lines below))

  -- or no line came since the last one
  pub draws_no_more : part ≡ [] → Covers drawn lines → Watching screen given left lines drawn [] now old wrote said told
  draws_no_more none covers = draws_none told (rested_undrawn none (is_covered drawn lines covers))

  -- it could not be drawn
  pub draws_not : (fault : AppFault) (new : Option (List ℕ)) (told' : Option (List Bool)) → Sends (text_of screen (seen_in w.bytes) now.client.start.tables) (Err fault) wrote new
      → Watches screen given left (Err fault) old new said told'
  draws_not faults.Write new told' drew = record {
    bytes = w.bytes;
    read = w.read;
    fronts = w.fronts;
    rise = w.rise;
    front = drew.0;
    cut = subst (λ t. IsCut (text_of screen (seen_in w.bytes) t) drew.0) (sym tables_are) drew.1;
    wrote = Appends-trans old wrote new (flat_map (screen_of screen) w.fronts) drew.0 w.wrote drew.2;
  }
  draws_not faults.Memory new told' drew = record { bytes = w.bytes; read = w.read; fronts = w.fronts; rise = w.rise; wrote = subst (λ k. Appends old k (flat_map (screen_of screen) w.fronts)) (sym drew) w.wrote }
  draws_not faults.Read new told' drew = absurd drew
  draws_not (faults.Stream n fault) new told' drew = absurd drew
  draws_not (faults.Script line name) new told' drew = absurd drew

  -- a piece more has a fault
  module _ (left' : Option (List ℕ)) (piece : List ℕ) (next : Course) (read : Consumes left left' piece) where
    ends_by : (n : ℕ) (fault : Fault) (new : Option (List ℕ)) → TakesTo screen.lints (w.bytes ++ piece) (Err (faults.Stream n fault)) next
        → Sends (text_of screen (seen_in (w.bytes ++ piece)) next.client.start.tables) (Ok tt) wrote new → Watches screen given left' (Err (faults.Stream n fault)) old new said told
    ends_by n fault new h drew = record {
      bytes = w.bytes ++ piece;
      read = Consumes-trans given left left' w.bytes piece w.read read;
      tables = next.client.start.tables;
      used = h.0;
      stop = h.1;
      fronts = w.fronts;
      rise = rise_on w.fronts w.bytes piece w.rise;
      wrote = Appends-trans old wrote new (flat_map (screen_of screen) w.fronts) (screen_of screen (w.bytes ++ piece)) w.wrote
          (subst (λ t. Appends wrote new (text_of screen (seen_in (w.bytes ++ piece)) t)) (sym (ap tables_in h.1)) drew);
    }

    ends_without : (n : ℕ) (fault : Fault) (stop : AppFault) (new : Option (List ℕ)) → TakesTo screen.lints (w.bytes ++ piece) (Err (faults.Stream n fault)) next
        → Sends (text_of screen (seen_in (w.bytes ++ piece)) next.client.start.tables) (Err stop) wrote new → Watches screen given left' (Err stop) old new said told
    ends_without n fault faults.Write new h d = record {
      bytes = w.bytes ++ piece;
      read = Consumes-trans given left left' w.bytes piece w.read read;
      fronts = w.fronts;
      rise = rise_on w.fronts w.bytes piece w.rise;
      front = d.0;
      cut = subst (λ t. IsCut (text_of screen (seen_in (w.bytes ++ piece)) t) d.0) (sym (ap tables_in h.1)) d.1;
      wrote = Appends-trans old wrote new (flat_map (screen_of screen) w.fronts) d.0 w.wrote d.2;
    }
    ends_without n fault faults.Memory new h d = record {
      bytes = w.bytes ++ piece;
      read = Consumes-trans given left left' w.bytes piece w.read read;
      fronts = w.fronts;
      rise = rise_on w.fronts w.bytes piece w.rise;
      wrote = subst (λ k. Appends old k (flat_map (screen_of screen) w.fronts)) (sym d) w.wrote;
    }
    ends_without n fault faults.Read new h d = absurd d
    ends_without n fault (faults.Stream m f) new h d = absurd d
    ends_without n fault (faults.Script line name) new h d = absurd d

    pub ends_at : (fault answer : AppFault) (new : Option (List ℕ)) → TakesTo screen.lints (w.bytes ++ piece) (Err fault) next
        → DrawsAt screen next fault answer wrote new → Watches screen given left' (Err answer) old new said told
    ends_at faults.Memory answer new h d =
        subst (λ a. Watches screen given left' (Err a) old new said told) (sym d.0)
        (subst (λ k. Watches screen given left' (Err faults.Memory) old k said told) (sym d.1) (stops_without left' piece read))
    ends_at faults.Read answer new h d = absurd h
    ends_at faults.Write answer new h d = absurd h
    ends_at (faults.Script line name) answer new h d = absurd h
    ends_at (faults.Stream n fault) answer new h d =
        ⊎_elim (λ p. subst (λ a. Watches screen given left' (Err a) old new said told) (sym p.0) (ends_by n fault new h p.1)) (λ q. ends_without n fault answer new h q) (d (seen_in (w.bytes ++ piece)) h.2)

  -- all was read, and the last screen has all lines
  pub ends_all : part ≡ [] → AreAll given w.bytes → Covers drawn lines → Watches screen given left (Ok tt) old wrote said told
  ends_all none all covers = by drawn covers w.last
    where
      by : (d : Option ℕ) → Covers d lines → last_lines w.fronts ≡ d → Watches screen given left (Ok tt) old wrote said told
      by None c is = absurd c
      by (Some most) c is =
          let e = ends_at_all w.fronts w.bytes now.client.start lines most w.rise is c w.taken.took.came in
          let lines_same = seen_same w.fronts e.init e.last w.bytes now.client.start lines most w.rise e.split is c w.taken.took.came in
          let texts = flat_map (screen_of screen) in
          let same : texts w.fronts ≡ texts (e.init ++ w.bytes ∷ []) =
          ap texts e.split ∙ texts_more (screen_of screen) e.init e.last ∙ ap (λ t. texts e.init ++ text_of screen (seen_in e.last) t) e.same
          ∙ ap (λ xs. texts e.init ++ text_of screen xs (tables_in (outcome_of w.bytes))) lines_same ∙ sym (texts_more (screen_of screen) e.init w.bytes) in
          record {
            bytes = w.bytes;
            all = all;
            start = now.client.start;
            lines = lines;
            come = w.taken.took.came;
            fronts = e.init;
            rise = e.rise;
            wrote = subst (Appends old wrote) same w.wrote;
            when = record { drawn = w.fronts; paced = paced_to none; screens = sym same };
          }
