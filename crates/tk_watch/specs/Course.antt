-- What a watch keeps of the lines that came. Inner: no public clause cites this.
use Rattle.tk_watch.specs.Lasts.{last_of}
use Rattle.tk_watch.specs.Waits.{waits_after}
use Rattle.tk_watch.specs.Recent.{Noted, limits_of, noted_of}
use Rattle.tk_watch.specs.declared.notes.Notes.{Notes}
use Rattle.std.specs.Prelude.{◌≡◌, ℕ, ◌-◌, List, [], Option, Some, None}
use Rattle.std.specs.Option.{option_map}
use Rattle.tk_client.specs.Warnings.{LintsView}
use Rattle.tk_reading.specs.Taken.{first}
use Rattle.tk_odd.specs.Inner.{Follows}
use Rattle.tk_sites.specs.Inner.{Follows as FollowsSites}
use Rattle.tk_stream.specs.Tables.{TablesView}
use Rattle.tk_watch.specs.Odd.{first_moment}
use Rattle.tk_watch.specs.declared.seen.Course.{Course}
use Rattle.tk_watch.specs.declared.seen.Seen.{Seen}

-- the last 64 notes are kept
pub record Keeps (noted : Noted) (n : Notes) : Type 0 where
  pub last : n.last ≡ noted.last
  pub again : n.again ≡ noted.again
  pub notes : n.list.items ≡ last_of 64 noted.notes

-- it has seen the tables after each of these lines
pub record Sees (lints : LintsView) (shown : List TablesView) (seen : Seen) : Type 0 where
  pub follows : Follows shown seen.diagnosis
  pub limits : seen.diagnosis.limits ≡ limits_of lints
  pub first : seen.first ≡ first_moment shown
  pub sites : FollowsSites shown seen.sites
  pub notes : Keeps (noted_of lints shown) seen.notes
  pub waits : seen.waits.items ≡ waits_after shown

-- how long the time is from a first moment to another
abbrev pub span_to : ℕ → Option ℕ → Option ℕ
span_to now first = option_map (λ from. now - from) first

-- the moment of the first line, where one was there, or this line is it
abbrev pub first_or : Option ℕ → ℕ → Option ℕ
first_or None now = Some now
first_or (Some from) now = Some from

-- nothing came yet
pub record IsNew (lints : LintsView) (course : Course) : Type 0 where
  pub client : course.client ≡ first
  pub seen : Sees lints [] course.seen
