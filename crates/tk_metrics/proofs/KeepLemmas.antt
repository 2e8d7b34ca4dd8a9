-- The steps of keeping a stream's numbers.
use Rattle.std.proofs.Common.{◌≡◌, inl, inr, ℕ, ◌<◌, List, [], ◌∷◌, ◌++◌, Option, Some, None, Ok, Err, refl, ap, sym, ◌∙◌, subst, append_assoc, append-nil, true, false, true≢false}
use Rattle.std.specs.Io.KnownBytes.{Consumes, Keeps as KeepsBytes}
use Rattle.std.proofs.KnownBytes.{Consumes-kept, Consumes-nil, Consumes-trans}
use Rattle.std.proofs.lemmas.List.{map-append}
use Rattle.tk_client.specs.declared.fault.Fault.{Fault}
use Rattle.tk_client.specs.Feeding.{ClientView}
use Rattle.tk_client.specs.Warnings.{LintsView}
use Rattle.tk_fault.specs.declared.fault.AppFault.{AppFault}
use Rattle.tk_fault.specs.declared.fault.AppFault.TheVariants as faults
use Rattle.tk_odd.specs.declared.limits.Limits.{Limits}
use Rattle.tk_reading.specs.Fronts.{lines_in, tables_in}
use Rattle.tk_reading.specs.Outcomes.{AreAll, outcome_of}
use Rattle.tk_reading.specs.Shown.{shown_of, timed_of}
use Rattle.tk_reading.specs.Taken.{HasTaken, first}
use Rattle.tk_reading.proofs.FrontLemmas.{last_more, rise_more, rise_on}
use Rattle.tk_reading.proofs.ReadLemmas.{begins}
use Rattle.tk_metrics.specs.declared.apart.Apart.{Apart}
use Rattle.tk_metrics.specs.declared.follower.Follower.{Follower}
use Rattle.tk_metrics.specs.Following.{StopsAfter, TakesMore, Watches}
use Rattle.tk_metrics.specs.Keeping.{HasStopped, Keeps, PutsAll, PutsSome, numbers_of, numbers_of_all}
use Rattle.tk_metrics.specs.Kept.{Kept, PutsNow, is_of_stream}
use Rattle.tk_metrics.specs.Places.{Gets, Texts}
use Rattle.tk_metrics.specs.Streams.{numbers_after, usual}

-- ---- the texts of a place

pub Gets-nil : (a : Option Texts) → Gets a a []
Gets-nil None = tt
Gets-nil (Some x) = sym (append-nil x)

Gets-trans : (a b c : Option Texts) (xs ys : Texts) → Gets a b xs → Gets b c ys → Gets a c (xs ++ ys)
Gets-trans None b c xs ys p q = tt
Gets-trans (Some x) None c xs ys p q = absurd p
Gets-trans (Some x) (Some y) None xs ys p q = absurd q
Gets-trans (Some x) (Some y) (Some z) xs ys p q = q ∙ ap (λ l. l ++ ys) p ∙ append_assoc x xs ys

-- ---- steps

-- the text of tables after lines
abbrev pub text_after : Apart → LintsView → ClientView → List ℕ → List ℕ
text_after by lints now bytes = numbers_after by lints (shown_of bytes) (timed_of bytes) now.start.tables

text_is : (by : Apart) (lints : LintsView) (now : ClientView) (bytes : List ℕ) → now.start.tables ≡ tables_in (outcome_of bytes) → text_after by lints now bytes ≡ numbers_of by lints bytes
text_is by lints now bytes e = ap (numbers_after by lints (shown_of bytes) (timed_of bytes)) e

-- the texts of fronts, and of bytes after them
one_more : (path : List ℕ) (by : Apart) (lints : LintsView) (fronts : List (List ℕ)) (bytes : List ℕ) (text : List ℕ) (a b c : Option Texts) → text ≡ numbers_of by lints bytes
    → Gets a b (numbers_of_all path by lints fronts) → Gets b c ((path, text) ∷ []) → Gets a c (numbers_of_all path by lints (fronts ++ bytes ∷ []))
one_more path by lints fronts bytes text a b c is p q =
    subst (Gets a c) (ap (λ t. numbers_of_all path by lints fronts ++ (path, t) ∷ []) is ∙ sym (map-append (λ front. (path, numbers_of by lints front)) fronts (bytes ∷ [])))
    (Gets-trans a b c (numbers_of_all path by lints fronts) ((path, text) ∷ []) p q)

-- nothing was read, and nothing put
pub none_put : (path : List ℕ) (by : Apart) (lints : LintsView) (given : Option (List ℕ)) (texts : Option Texts) → PutsSome path by lints given given texts texts
none_put path by lints given texts = record { bytes = []; read = Consumes-nil given; fronts = []; rise = tt; put = Gets-nil texts }

pub starts : (path : List ℕ) (by : Apart) (lints : LintsView) (given : Option (List ℕ)) (texts : Option Texts) (c : ClientView) (l : Follower) → c ≡ first → Watches by (usual lints) [] l
    → Kept path by lints given given 0 None c l texts texts
starts path by lints given texts c l is f = record {
  bytes = [];
  read = Consumes-nil given;
  taken = begins c is;
  follows = f;
  fronts = [];
  rise = tt;
  last = refl;
  puts = Gets-nil texts;
}

module _ (path : List ℕ) (by : Apart) (lints : LintsView) (given left : Option (List ℕ)) (lines : ℕ) (put : Option ℕ) (now : ClientView) (l : Follower) (old there : Option Texts)
    (k : Kept path by lints given left lines put now l old there) where
  tables_are : now.start.tables ≡ tables_in (outcome_of k.bytes)
  tables_are = sym (ap tables_in k.taken.took.came)

  lines_are : lines_in (outcome_of k.bytes) ≡ lines
  lines_are = ap lines_in k.taken.took.came

  -- a piece more was read, and followed
  pub takes_more : (new : Option (List ℕ)) (piece : List ℕ) (sum : ℕ) (then : ClientView) (m : Follower) → Consumes left new piece
      → TakesMore by (usual lints) k.bytes piece (Ok sum) then m → Kept path by lints given new sum put then m old there
  takes_more new piece sum then m read h = record {
    bytes = k.bytes ++ piece;
    read = Consumes-trans given left new k.bytes piece k.read read;
    taken = h.0;
    follows = h.1;
    fronts = k.fronts;
    rise = rise_on k.fronts k.bytes piece k.rise;
    last = k.last;
    puts = k.puts;
  }

  -- nothing more was read
  pub keeps_on : (new : Option (List ℕ)) → Consumes left new [] → Kept path by lints given new lines put now l old there
  keeps_on new read = takes_more new [] lines now l read
      (subst (λ xs. HasTaken xs lines now) (sym (append-nil k.bytes)) k.taken, subst (λ xs. Watches by (usual lints) xs l) (sym (append-nil k.bytes)) k.follows)

  -- it stops, with what was put
  pub stops_some : (new : Option (List ℕ)) → KeepsBytes left new → Keeps path by lints given new (Err faults.Read) old there
  stops_some new kept = record { bytes = k.bytes; read = Consumes-kept given left new k.bytes k.read kept; fronts = k.fronts; rise = k.rise; put = k.puts }

  pub stops_here : Keeps path by lints given left (Err faults.Read) old there
  stops_here = record { bytes = k.bytes; read = k.read; fronts = k.fronts; rise = k.rise; put = k.puts }

  pub stops_without : (new : Option (List ℕ)) (piece : List ℕ) → Consumes left new piece → PutsSome path by lints given new old there
  stops_without new piece read = record {
    bytes = k.bytes ++ piece;
    read = Consumes-trans given left new k.bytes piece k.read read;
    fronts = k.fronts;
    rise = rise_on k.fronts k.bytes piece k.rise;
    put = k.puts;
  }

  -- numbers were put
  pub puts_more : (new : Option Texts) → PutsNow path (text_after by lints now k.bytes) (Ok tt) there new → ((most : ℕ) → put ≡ Some most → most < lines)
      → Kept path by lints given left lines (Some lines) now l old new
  puts_more new h below = record {
    bytes = k.bytes;
    read = k.read;
    taken = k.taken;
    follows = k.follows;
    fronts = k.fronts ++ k.bytes ∷ [];
    rise = rise_more k.fronts k.bytes k.rise (λ most is. subst (λ n. most < n) (sym lines_are) (below most (sym k.last ∙ is)));
    last = last_more k.fronts k.bytes ∙ ap Some lines_are;
    puts = one_more path by lints k.fronts k.bytes _ old there new (text_is by lints now k.bytes tables_are) k.puts h;
  }

  -- the numbers of all were put
  pub puts_last : (new : Option Texts) → PutsNow path (text_after by lints now k.bytes) (Ok tt) there new → AreAll given k.bytes → PutsAll path by lints given old new
  puts_last new h all = record {
    bytes = k.bytes;
    all = all;
    start = now.start;
    lines = lines;
    come = k.taken.took.came;
    fronts = k.fronts;
    rise = k.rise;
    put = one_more path by lints k.fronts k.bytes _ old there new (text_is by lints now k.bytes tables_are) k.puts h;
  }

  none_more : (new : Option Texts) → Gets there new [] → Gets old new (numbers_of_all path by lints k.fronts)
  none_more new h = subst (Gets old new) (append-nil (numbers_of_all path by lints k.fronts)) (Gets-trans old there new (numbers_of_all path by lints k.fronts) [] k.puts h)

  -- they could not be put
  none_taken : (fault : AppFault) (text : List ℕ) (new : Option Texts) → PutsNow path text (Err fault) there new → Gets there new []
  none_taken faults.Memory text new h = h
  none_taken faults.Write text new h = h
  none_taken faults.Read text new h = absurd h
  none_taken (faults.Stream n fault) text new h = absurd h
  none_taken (faults.Script line name) text new h = absurd h

  -- and are let go
  pub lets_go : (fault : AppFault) (text : List ℕ) (new : Option Texts) → PutsNow path text (Err fault) there new → Kept path by lints given left lines put now l old new
  lets_go fault text new h = record {
    bytes = k.bytes;
    read = k.read;
    taken = k.taken;
    follows = k.follows;
    fronts = k.fronts;
    rise = k.rise;
    last = k.last;
    puts = none_more new (none_taken fault text new h);
  }

  -- for want of memory
  pub puts_none : (fault : AppFault) (text : List ℕ) (new : Option Texts) → PutsNow path text (Err fault) there new → PutsSome path by lints given left old new
  puts_none fault text new h = record { bytes = k.bytes; read = k.read; fronts = k.fronts; rise = k.rise; put = none_more new (none_taken fault text new h) }

  -- those of all could not be put
  pub puts_not : (fault : AppFault) (text : List ℕ) (new : Option Texts) → PutsNow path text (Err fault) there new → AreAll given k.bytes
      → Keeps path by lints given left (Err fault) old new
  puts_not faults.Memory text new h all = puts_none faults.Memory text new h
  puts_not faults.Write text new h all = record { bytes = k.bytes; read = k.read; ended = inl all; fronts = k.fronts; rise = k.rise; put = none_more new h }
  puts_not faults.Read text new h all = absurd h
  puts_not (faults.Stream n fault) text new h all = absurd h
  puts_not (faults.Script line name) text new h all = absurd h

  -- a piece more has a fault
  module _ (left' : Option (List ℕ)) (piece : List ℕ) (then : ClientView) (m : Follower) (read : Consumes left left' piece) (n : ℕ) (fault : Fault)
      (s : StopsAfter by (usual lints) k.bytes piece n fault then m) where
    -- the numbers of what stands were put
    pub ends_by : (new : Option Texts) → PutsNow path (text_after by lints then (k.bytes ++ s.part)) (Ok tt) there new
        → Keeps path by lints given left' (Err (faults.Stream n fault)) old new
    ends_by new h = record {
      bytes = k.bytes ++ piece;
      read = Consumes-trans given left left' k.bytes piece k.read read;
      tables = s.start.tables;
      used = s.used;
      stop = s.stop;
      good = k.bytes ++ s.part;
      front = record { rest = s.rest; whole = ap (λ xs. k.bytes ++ xs) s.whole ∙ sym (append_assoc k.bytes s.part s.rest) };
      start = s.start;
      come = s.come;
      fronts = k.fronts;
      rise = rise_on k.fronts k.bytes s.part k.rise;
      put = one_more path by lints k.fronts (k.bytes ++ s.part) _ old there new (text_is by lints then (k.bytes ++ s.part) (s.tables ∙ sym (ap tables_in s.come))) k.puts h;
    }

    -- or could not be
    pub ends_without : (stop : AppFault) (new : Option Texts) → PutsNow path (text_after by lints then (k.bytes ++ s.part)) (Err stop) there new
        → Keeps path by lints given left' (Err stop) old new
    ends_without faults.Memory new h = record {
      bytes = k.bytes ++ piece;
      read = Consumes-trans given left left' k.bytes piece k.read read;
      fronts = k.fronts;
      rise = rise_on k.fronts k.bytes piece k.rise;
      put = none_more new h;
    }
    ends_without faults.Write new h = record {
      bytes = k.bytes ++ piece;
      read = Consumes-trans given left left' k.bytes piece k.read read;
      ended = inr (subst HasStopped (sym s.stop) tt);
      fronts = k.fronts;
      rise = rise_on k.fronts k.bytes piece k.rise;
      put = none_more new h;
    }
    ends_without faults.Read new h = absurd h
    ends_without (faults.Stream i f) new h = absurd h
    ends_without (faults.Script line name) new h = absurd h

  -- a piece more could not be followed, for want of memory
  pub stops_with : (left' : Option (List ℕ)) (piece : List ℕ) (then : ClientView) (m : Follower) (answer : AppFault) → Consumes left left' piece
      → is_of_stream answer ≡ false → TakesMore by (usual lints) k.bytes piece (Err answer) then m → Keeps path by lints given left' (Err answer) old there
  stops_with left' piece then m faults.Memory read other h = stops_without left' piece read
  stops_with left' piece then m faults.Read read other h = absurd h
  stops_with left' piece then m faults.Write read other h = absurd h
  stops_with left' piece then m (faults.Script line name) read other h = absurd h
  stops_with left' piece then m (faults.Stream n fault) read other h = absurd (true≢false other)

-- a fault of the stream is one after lines that were followed
pub stream_stops : (by : Apart) (limits : Limits) (bytes piece : List ℕ) (now : ClientView) (l : Follower) (answer : AppFault) → is_of_stream answer ≡ true → TakesMore by limits bytes piece (Err answer) now l
    → (n : ℕ) × (fault : Fault) × (answer ≡ faults.Stream n fault) × StopsAfter by limits bytes piece n fault now l
stream_stops by limits bytes piece now l (faults.Stream n fault) is h = (n, fault, refl, h)
stream_stops by limits bytes piece now l faults.Memory is h = absurd (true≢false (sym is))
stream_stops by limits bytes piece now l faults.Read is h = absurd h
stream_stops by limits bytes piece now l faults.Write is h = absurd h
stream_stops by limits bytes piece now l (faults.Script line name) is h = absurd h
