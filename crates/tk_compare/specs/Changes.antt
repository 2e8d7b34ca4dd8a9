-- What a change is, and what is worse.
use Rattle.std.specs.Prelude.{ℕ, ◌+◌, ◌*◌, ◌-◌, ◌/◌, ◌==◌, nat_le, nat_lt, max, Bool, ◌&&◌, if◌then◌else◌}
use Rattle.tk_core.specs.Lists.{capped}
use Rattle.tk_compare.specs.declared.change.Change.{Change}
use Rattle.tk_compare.specs.declared.change.Change.TheVariants.{Worse, New, Better, Gone, Same}
use Rattle.tk_compare.specs.declared.change.Margin.{Margin}
use Rattle.tk_compare.specs.declared.change.Shares.{Shares}
use Rattle.tk_compare.specs.declared.change.Spans.{Spans}
use Rattle.tk_compare.specs.declared.spent.Compared.{Compared}
use Rattle.tk_compare.specs.declared.spent.Spent.{Spent}

-- what comes to this much in so many nanoseconds comes to in a second: rounded down, and at most 2^64 - 1. A stream of no time is taken for one of a nanosecond
abbrev pub rate : ℕ → ℕ → ℕ
rate span n = capped ((n * 1000000000) / max span 1)

-- the same in hundredths
abbrev pub rate_in_hundredths : ℕ → ℕ → ℕ
rate_in_hundredths span n = capped ((n * 100000000000) / max span 1)

-- what comes to this much over so many polls comes to for each of them: rounded down. No poll is taken for one
abbrev pub each : ℕ → ℕ → ℕ
each polls n = n / max polls 1

-- how much of a second, and for each poll, tasks of places ran or waited so long, in a stream that took this time
abbrev pub shares_of : ℕ → Spent → ℕ → Shares
shares_of span spent n = record { second = rate span n; poll = each spent.polls n }

abbrev pub ran_of : ℕ → Spent → Shares
ran_of span spent = shares_of span spent spent.ran

abbrev pub waited_of : ℕ → Spent → Shares
waited_of span spent = shares_of span spent spent.waited

-- a number is greater than before by more than so many percent
abbrev pub is_more : ℕ → ℕ → ℕ → Bool
is_more percent before after = nat_lt (before * (100 + percent)) (after * 100)

-- a time rose: of a second and for each poll by more than the margin's percent, and of a second by as much as the margin says, at least.
-- So more work, of which each poll takes as long as before, is no change
abbrev pub rose : Margin → Shares → Shares → Bool
rose margin before after =
    nat_le margin.least (after.second - before.second)
    && (is_more margin.percent before.second after.second && is_more margin.percent before.poll after.poll)

-- by how much of a second a time rose, if that is a change
abbrev pub risen : Margin → Shares → Shares → ℕ
risen margin before after = if rose margin before after then after.second - before.second else 0

-- how much more of each second tasks of a place ran and waited, where that is a change
abbrev pub more_of : Margin → Spans → Compared → ℕ
more_of margin spans x =
    risen margin (ran_of spans.before x.before) (ran_of spans.after x.after)
    + risen margin (waited_of spans.before x.before) (waited_of spans.after x.after)

-- and how much less of it
abbrev pub less_of : Margin → Spans → Compared → ℕ
less_of margin spans x =
    risen margin (ran_of spans.after x.after) (ran_of spans.before x.before)
    + risen margin (waited_of spans.after x.after) (waited_of spans.before x.before)

-- how much changed, of which some is more and some is less: the greater decides, and more if both are as great
abbrev pub by_both : ℕ → ℕ → Change
by_both more less = if more + less == 0 then Same else if nat_le less more then Worse else Better

-- how a place changed: it came, it went, or it is in both streams
abbrev pub change_of : Margin → Spans → Compared → Change
change_of margin spans x =
    if x.before.places == 0 then New else if x.after.places == 0 then Gone else by_both (more_of margin spans x) (less_of margin spans x)
