-- Moments of a stream, and times, as words say them.
use Rattle.std.specs.Prelude.{ℕ, ◌-◌, ◌*◌, ◌/◌, ◌%◌, ◌==◌, ◌&&◌, List, min, nat_le, nat_lt, option_and_then, Option, Some, None, Result, Ok, Err, if◌then◌else◌}
use Rattle.std.specs.Option.{option_map, option_map_or}
use Rattle.std.specs.Str.Parse.{digits_value, without_leading_plus}
use Rattle.clap.specs.ValueTests.{is_unsigned_in}
use Rattle.jiff_fmt.specs.Friendly.{parse_unsigned_duration}
use Rattle.taskscope.specs.declared.moments.Moment.{Moment}
use Rattle.taskscope.specs.declared.moments.Moment.TheVariants.{At, BeforeEnd}

-- the number that a text writes in decimal digits, with or without a plus, below 2^64
abbrev pub number_of : List ℕ → Option ℕ
number_of text = if is_unsigned_in 0 18446744073709551615 text then Some (digits_value 10 (without_leading_plus text)) else None

-- nanoseconds that were read, below 2^64
abbrev pub time_read : {E : Type 0} → Result ℕ E → Option ℕ
time_read (Ok n) = if nat_lt n 18446744073709551616 then Some n else None
time_read (Err error) = None

-- the span of time that a text says, in nanoseconds: as in `100ms`, `12.5s` or `1m 30s`
abbrev pub time_of : List ℕ → Option ℕ
time_of text = time_read (parse_unsigned_duration text)

-- the moment that a text names. A number is one as the stream counts, in nanoseconds, and a span of time is one so long before its end
abbrev pub moment_of : List ℕ → Option Moment
moment_of text = option_map_or (λ n. Some (At n)) (number_of text) (option_map BeforeEnd (time_of text))

-- the moment so long before another one; before the first there is none
abbrev pub moment_before : ℕ → ℕ → ℕ
moment_before end span = end - span

-- ---- times of options

-- nanoseconds as a whole number of a unit; there is none where something is left
abbrev pub in_units : ℕ → ℕ → Option ℕ
in_units unit time = if time % unit == 0 then Some (time / unit) else None

-- how many of a unit a text says: a number is so many, and a span of time, as `100ms`, must be a whole number of them
abbrev pub units_of : ℕ → List ℕ → Option ℕ
units_of unit text = option_map_or (λ n. Some n) (number_of text) (option_and_then (in_units unit) (time_of text))

-- a number from the least to the most
abbrev pub within : ℕ → ℕ → ℕ → Option ℕ
within least most n = if nat_le least n && nat_le n most then Some n else None

-- how many of a unit a text says, from the least to the most
abbrev pub units_within : ℕ → ℕ → ℕ → List ℕ → Option ℕ
units_within unit least most text = option_and_then (within least most) (units_of unit text)

-- how long a text says, in nanoseconds: a number counts milliseconds
abbrev pub nanos_of : List ℕ → Option ℕ
nanos_of text = option_map_or (λ n. Some (min (n * 1000000) 18446744073709551615)) (number_of text) (time_of text)
