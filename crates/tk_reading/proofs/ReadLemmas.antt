-- What pieces of a stream come to, one after the other.
use Rattle.std.proofs.Common.{◌≡◌, ℕ, ◌+◌, List, [], ◌∷◌, ◌++◌, take, Option, Some, None, Ok, Err, refl, ap, sym, ◌∙◌, append-nil, subst}
use Rattle.std.specs.Io.KnownBytes.{Consumes, IsAtEnd}
use Rattle.std.proofs.KnownBytes.{Consumes-trans}
use Rattle.tk_client.specs.Changes.{Timed}
use Rattle.tk_client.specs.Feeding.{ClientView, Took}
use Rattle.tk_client.specs.Meaning.{empty_start, meaning, greatest_line}
use Rattle.tk_client.proofs.FeedLemmas.{goes-then}
use Rattle.tk_fault.specs.declared.fault.AppFault.{AppFault}
use Rattle.tk_fault.specs.declared.fault.AppFault.TheVariants as faults
use Rattle.tk_reading.specs.Outcomes.{AreAll, LeadTo}
use Rattle.tk_reading.specs.Reads.{Reads, SawAll, Seen, TakesMore}
use Rattle.tk_reading.specs.Taken.{HasTaken, first}

-- nothing was read yet
pub begins : (c : ClientView) → c ≡ first → HasTaken [] 0 c
begins c is = subst (HasTaken [] 0) (sym is) (record { took = record { came = refl; sound = refl }; limit = refl })

-- a piece more was taken
pub takes_more : (front piece : List ℕ) (lines more : ℕ) (old new : ClientView) → HasTaken front lines old → Took old piece more new → new.max_line ≡ old.max_line
    → HasTaken (front ++ piece) (lines + more) new
takes_more front piece lines more old new h fed limit = record {
  took = record {
    came = goes-then greatest_line empty_start old.start new.start front piece lines more h.took.came (ap (λ k. meaning k old.start piece) (sym h.limit) ∙ fed.came);
    sound = fed.sound;
  };
  limit = limit ∙ h.limit;
}

-- ---- the end of what a reader gave

none_taken : (xs : List ℕ) → take 0 xs ≡ []
none_taken [] = refl
none_taken (x ∷ xs) = refl

-- a read that gave nothing leaves what there is
pub reads_none : (left new : Option (List ℕ)) (n : ℕ) (buf : List ℕ) → n ≡ 0 → Consumes left new (take n buf) → Consumes left new []
reads_none left new n buf is read = subst (Consumes left new) (ap (λ k. take k buf) is ∙ none_taken buf) read

-- at the end all was read
pub all_at_end : (given left : Option (List ℕ)) (bytes : List ℕ) → Consumes given left bytes → IsAtEnd left → AreAll given bytes
all_at_end None left bytes read end = tt
all_at_end (Some x) None bytes read end = absurd read
all_at_end (Some x) (Some y) bytes read end = read ∙ ap (λ zs. bytes ++ zs) end ∙ append-nil bytes

-- a read found the end: all was read
pub all_read : (given left last : Option (List ℕ)) (bytes buf : List ℕ) (n : ℕ) → n ≡ 0 → Consumes given left bytes → Consumes left last (take n buf) → IsAtEnd last → AreAll given bytes
all_read given left last bytes buf n is read none end =
    all_at_end given last bytes
    (subst (Consumes given last) (append-nil bytes) (Consumes-trans given left last bytes [] read (reads_none left last n buf is none))) end

-- ---- what was read, and watched

module _ (O : Type 0) (saw : List Timed → O → Type 0) (given left new : Option (List ℕ)) (piece : List ℕ) (lines : ℕ) (old now : ClientView) (was observer : O)
    (r : Seen saw given left lines old was) (read : Consumes left new piece) where
  -- a piece more was read, and taken
  pub reads_on : (sum : ℕ) → TakesMore saw r.bytes piece (Ok sum) now observer → Seen saw given new sum now observer
  reads_on sum h = record { bytes = r.bytes ++ piece; read = Consumes-trans given left new r.bytes piece r.read read; taken = h.0; seen = h.1 }

  -- or could not be
  pub reads_stop : (answer : AppFault) → TakesMore saw r.bytes piece (Err answer) now observer → Reads saw given new (Err answer) now observer
  reads_stop faults.Memory h = tt
  reads_stop faults.Read h = absurd h
  reads_stop faults.Write h = absurd h
  reads_stop (faults.Script line name) h = absurd h
  reads_stop (faults.Stream n fault) h = record {
    bytes = r.bytes ++ piece;
    read = Consumes-trans given left new r.bytes piece r.read read;
    tables = h.start.tables;
    used = h.used;
    stop = h.stop;
  }

-- all bytes lead to the client's tables
abbrev pub lead_of : {O : Type 0} (saw : List Timed → O → Type 0) (given : Option (List ℕ)) (now : ClientView) (observer : O) → SawAll saw given now observer
    → LeadTo given now.start.tables
lead_of saw given now observer all =
    record { bytes = all.bytes; all = all.all; start = now.start; lines = all.lines; come = all.taken.took.came; shows = refl }
