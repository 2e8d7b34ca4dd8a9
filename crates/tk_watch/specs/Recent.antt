-- What places came to in the last 5 seconds, as far as a stream's lines came.
use Rattle.std.specs.Prelude.{ℕ, ◌-◌, nat_le, nat_lt, ◌||◌, Bool, true, false, List, [], ◌∷◌, ◌++◌, fold, Option, Some, None, if◌then◌else◌}
use Rattle.std.specs.Option.{option_map, option_map_or}
use Rattle.tk_client.specs.Warnings.{LintsView}
use Rattle.tk_frame.specs.Places.{PlaceRow, RecentView, recent_since}
use Rattle.tk_frame.specs.declared.recent.Earlier.{Earlier}
use Rattle.tk_odd.specs.Diagnosis.{standing_of}
use Rattle.tk_odd.specs.declared.limits.Limits.{Limits}
use Rattle.tk_sites.specs.Sites.{sites_until}
use Rattle.tk_stream.specs.Tables.{TablesView}
use Rattle.tk_watch.specs.Lasts.{last_of}

-- how much is too much: a poll of 100 milliseconds is a long one
abbrev pub limits_of : LintsView → Limits
limits_of lints = record { long = 100000000; lints = lints }

-- what places had come to at the moment of tables to which these lines came
abbrev pub earlier_of : LintsView → List TablesView → TablesView → Earlier
earlier_of lints shown tables = record {
  moment = tables.now;
  sites = sites_until shown tables;
  held = (standing_of (limits_of lints) shown).places.0;
}

-- ---- what is noted

-- the lines that came, the moment of the last note, that of the first line since the service was started again, if it was, and what was noted since of what places had come to
pub record Noted : Type 0 where
  pub came : List TablesView
  pub last : Option ℕ
  pub again : Option ℕ
  pub notes : List Earlier

abbrev pub nothing : Noted
nothing = record { came = []; last = None; again = None; notes = [] }

-- a moment that is before the last note: the service was started again
abbrev pub has_fallen : Option ℕ → ℕ → Bool
has_fallen None now = false
has_fallen (Some last) now = nat_lt now last

-- the moment of the first line since the service was started again, if it was: this line, or as before
abbrev pub again_at : Option ℕ → ℕ → Option ℕ → Option ℕ
again_at last now again = if has_fallen last now then Some now else again

-- it is noted after the first line, and then after each that is 100 milliseconds or more later than the last note, or before it
abbrev pub is_due : Option ℕ → ℕ → Bool
is_due None now = true
is_due (Some last) now = nat_lt now last || nat_le 100000000 (now - last)

-- the notes of the service that runs
abbrev pub still : Option ℕ → ℕ → List Earlier → List Earlier
still last now notes = if has_fallen last now then [] else notes

-- a line more
abbrev pub with_line : LintsView → Noted → TablesView → Noted
with_line lints n t = record {
  came = n.came ++ t ∷ [];
  last = if is_due n.last t.now then Some t.now else n.last;
  again = again_at n.last t.now n.again;
  notes = if is_due n.last t.now then still n.last t.now n.notes ++ earlier_of lints (n.came ++ t ∷ []) t ∷ [] else n.notes;
}

-- what was noted of these lines
abbrev pub noted_of : LintsView → List TablesView → Noted
noted_of lints shown = fold (with_line lints) nothing shown

-- ---- the last while

-- it was noted 5 seconds or more before a moment
abbrev pub is_old : ℕ → Earlier → Bool
is_old now e = nat_le 5000000000 (now - e.moment)

-- the last of notes that was
abbrev pub last_old : ℕ → List Earlier → Option Earlier
last_old now [] = None
last_old now (e ∷ es) = option_map_or (λ (later : Earlier). Some later) (last_old now es) (if is_old now e then Some e else None)

-- what these places came to since then, at this moment, where something was noted so early. The last 64 notes are looked at
abbrev pub recent_after : LintsView → List TablesView → ℕ → List PlaceRow → Option RecentView
recent_after lints shown now places = option_map (λ e. recent_since e now places) (last_old now (last_of 64 (noted_of lints shown).notes))
