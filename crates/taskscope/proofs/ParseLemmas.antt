-- Where a parse takes words, they ask for something: whatever the parse has held of an option's number passed its parser.
use Rattle.std.proofs.Common.{◌≡◌, ◌^◌, refl, sym, subst, ap, ap₂, ◌∙◌, ℕ, zero, suc, Bool, true, false, cond, List, [], ◌∷◌, ◌++◌, length, codes, Option, Some, None, is_some, true≢false, arith, ◌&&◌, ◌||◌, inl, inr, ◌⊎◌, nat_le, nat_lt, not}
use Rattle.std.specs.Prelude.{option_and_then, slice_get, IsSome}
use Rattle.std.specs.List.{find, fold}
use Rattle.std.specs.Option.{option_map, option_map_or}
use Rattle.std.specs.Str.{bytes_eq, chars}
use Rattle.std.specs.Str.Parse.{digits_value, without_leading_plus}
use Rattle.std.proofs.lemmas.Bool.{ne_eqb}
use Rattle.clap.specs.Faults.{bundle_fault, bundle_step_fault, check_fault, defaults_fault, entered_fault, fault_of, flag_word_fault, flags_fault, level_fault, long_fault, option_fault, other_fault, positional_fault, react_fault, repeat_fault, settle_fault, short_fault, step_fault, stray_fault, turn_fault, use_fault, values_fault, walk_fault, word_fault}
use Rattle.clap.specs.Kinds.{Kinds, or_else, range_kinds, value_kinds}
use Rattle.clap.specs.Lexer.{long_of, short_of}
use Rattle.clap.specs.Simple.{App, Shape, argument_words, built, entered, filled, help_rule, names_of, new_rule, subcommand_of, with_index}
use Rattle.clap.specs.Values.{read_as}
use Rattle.clap.specs.ValueTests.{is_numeral, is_unsigned_in}
use Rattle.clap.specs.Walk.{Held, Names, Outcome, Row, Rule, Step, Text, Waiting, Walk, after_flag, after_step, arg_by_id, arg_by_index, arg_by_long, arg_by_short, at_row, attached_value, bundle, bundle_met, bundle_step, done, finished, flag_met, has_row, idle, is_pending, long_met, long_or_other, more_values, next, nothing_held, option, option_met, option_word, plain, plain_word, positional, pushed, reacted, refused, rows_after, settled, settled_rows, short_met, short_or_plain, subcommand, subcommand_met, subcommand_or_other, takes_several, takes_values, to_positional, trailing, used, used_by_id, value, waits, walk, walk_from, walked, walked_from, with_default, without, word_met, row_text, one_of}
use Rattle.clap.specs.declared.builder.value_parser.Reading.{Reading}
use Rattle.clap.specs.declared.builder.value_parser.Reading.TheVariants as reading
use Rattle.clap.specs.declared.builder.value_parser.ValueParser.TheVariants as vp
use Rattle.clap.specs.declared.error.kind.ErrorKind.{ErrorKind}
use Rattle.clap.specs.declared.error.kind.ErrorKind.TheVariants.{InvalidValue, TooManyValues, ValueValidation, WrongNumberOfValues}
use Rattle.clap.specs.declared.parser.matches.ValueSource.{ValueSource}
use Rattle.clap.specs.declared.parser.matches.ValueSource.TheVariants.{CommandLine, DefaultValue}
use Rattle.clap.proofs.ValueTestLemmas.{Accepts-accepts, accepts-Accepts}
use Rattle.clap.proofs.WalkLemmas.{both}
use Rattle.tk_client.specs.Warnings.{LintsView}
use Rattle.tk_report.specs.declared.view.View.{View}
use Rattle.tk_report.specs.declared.view.View.TheVariants.{Report, Lint}
use Rattle.tk_frame.specs.declared.query.Column.{Column}
use Rattle.taskscope.specs.Moments.{number_of, time_of}
use Rattle.taskscope.specs.declared.command_line.Request.TheVariants.{Metrics, Watch}
use Rattle.tk_metrics.specs.declared.by.By.{By}
use Rattle.taskscope.specs.Requests.{asked, asked_in, by_at, by_place_at, column_at, explains_two, count_option, flag_option, limit_at, lints_in, lints_with, long_poll, long_wait, metrics_by, name_fault, names_no_moment, names_no_span, names_no_time, names_nothing, number_at, number_option, page_by, program, refusals, text_at, text_option, view_of, view_by, watch_by}

-- ---- lists of kinds

abbrev is_none : Kinds → Bool
is_none [] = true
is_none (k ∷ ks) = false

some_kind : (k : ErrorKind) (ks : Kinds) → k ∷ ks ≡ [] → ⊥
some_kind k ks e = true≢false (sym (ap is_none e))

first_none : (a b : Kinds) → or_else a b ≡ [] → a ≡ []
first_none [] b e = refl
first_none (k ∷ ks) b e = e

next_none : (a b : Kinds) → or_else a b ≡ [] → b ≡ []
next_none [] b e = e
next_none (k ∷ ks) b e = absurd (some_kind k ks e)

-- a test whose failure is an error passes
taken_if : (b : Bool) (k : ErrorKind) → cond b [] (k ∷ []) ≡ [] → b ≡ true
taken_if true k e = refl
taken_if false k e = absurd (some_kind k [] e)

-- ---- rows whose numbers passed

-- the row of a number that passed its parser
abbrev NumberRow : ℕ → Row → Type 0
NumberRow most r = (r.reading ≡ reading.AsWritten) × (text : Text) × (rest : List Text) × (r.values ≡ text ∷ rest) × (is_unsigned_in 0 most text ≡ true)

abbrev percent_id : Text
percent_id = codes "self-wake-percent"

abbrev limit_id : Text
limit_id = codes "never-yielded-ns"

abbrev most : ℕ
most = 18446744073709551615

abbrev IsGood : Row → Type 0
IsGood r = (bytes_eq r.id percent_id ≡ true → NumberRow 100 r) × (bytes_eq r.id limit_id ≡ true → NumberRow most r)

abbrev AreGood : List Row → Type 0
AreGood [] = Unit {0}
AreGood (r ∷ rs) = IsGood r × AreGood rs

-- ---- rows with a use of an argument more

good_append : (xs ys : List Row) → AreGood xs → AreGood ys → AreGood (xs ++ ys)
good_append [] ys a b = b
good_append (x ∷ xs) ys a b = (a.0, good_append xs ys a.1 b)

-- a change of the row of an id, or a row more where there is none
good_at : (id : Text) (change : Row → List Row) (missing rows : List Row) → AreGood rows → ((r : Row) → IsGood r → AreGood (change r)) → AreGood missing
    → AreGood (at_row id change missing rows)
good_at id change missing [] good changed new = new
good_at id change missing (r ∷ rs) good changed new = go (good_at id change missing rs good.1 changed new) (bytes_eq r.id id)
  where
    go : AreGood (at_row id change missing rs) → (b : Bool) → AreGood (cond b (change r ++ rs) (r ∷ at_row id change missing rs))
    go others true = good_append (change r) rs (changed r good.0) good.1
    go others false = (good.0, others)

more_number : (n : ℕ) (s : ValueSource) (values : List Text) (r : Row) → NumberRow n r
    → NumberRow n (record r { values = r.values ++ values })
more_number n s values r number = (number.0, number.1, number.2 ++ values, ap (λ vs. vs ++ values) number.3, number.4)

good_more : (s : ValueSource) (values : List Text) (r : Row) → IsGood r → AreGood (more_values s values r)
good_more s values r good = ((λ is. more_number 100 s values r (good.0 is), λ is. more_number most s values r (good.1 is)), tt)

-- ---- what an option of a number asks of its uses

abbrev Sound : Rule → Type 0
Sound a = (again : Bool) (values : List Text) (rows : List Row) → AreGood rows → use_fault again a values rows ≡ [] → AreGood (used a values rows)

abbrev SoundIf : Option Rule → Type 0
SoundIf None = Unit {0}
SoundIf (Some a) = Sound a

abbrev AreSound : List Rule → Type 0
AreSound [] = Unit {0}
AreSound (a ∷ rest) = Sound a × AreSound rest

found_sound : (p : Rule → Bool) (c : List Rule) → AreSound c → SoundIf (find p c)
found_sound p [] sound = tt
found_sound p (a ∷ c) sound = go (found_sound p c sound.1) (p a)
  where
    go : SoundIf (find p c) → (b : Bool) → SoundIf (cond b (Some a) (find p c))
    go later true = sound.0
    go later false = later

abbrev number_rule : Text → Text → ℕ → Rule
number_rule id default n = with_index 1 (filled (number_option id default n))

-- where one value is wanted, two are too many
two_values : (n : ℕ) → range_kinds 1 1 (suc (suc n)) ≡ WrongNumberOfValues ∷ []
two_values n = rw (ne_eqb (suc (suc n)) 0 (λ e. omega (arith, e)), ne_eqb 1 (suc (suc n)) (λ e. omega (arith, e))) refl

-- a use of it has one value, which passed
number_use : (again : Bool) (id default : Text) (n : ℕ) (values : List Text) (rows : List Row) → use_fault again (number_rule id default n) values rows ≡ []
    → (v : Text) × (values ≡ v ∷ []) × (is_unsigned_in 0 n v ≡ true)
number_use again id default n [] rows none = absurd (some_kind _ _ none)
number_use again id default n (v ∷ []) rows none =
    let values = values_fault (number_rule id default n) (v ∷ []) in
    let passed : values ≡ [] = next_none (repeat_fault again id rows) values none in
    (v, refl, taken_if (is_unsigned_in 0 n v) ValueValidation (first_none (value_kinds false (vp.Unsigned 0 n) v) [] passed))
number_use again id default n (v ∷ w ∷ vs) rows none = absurd (some_kind _ _ (sym (two_values (length vs)) ∙ first_none _ _ none))

abbrev new_row : Text → ValueSource → Text → Row
new_row id s v = record {
  id = id;
  values = v ∷ [];
  count = None;
  source = Some s;
  reading = reading.AsWritten;
}

sound_number : (id default : Text) (n : ℕ) → ((v : Text) → is_unsigned_in 0 n v ≡ true → IsGood (new_row id CommandLine v)) → Sound (number_rule id default n)
sound_number id default n new again values rows good none =
    let one = number_use again id default n values rows none in
    rw one.1 (good_at id (more_values CommandLine (one.0 ∷ [])) (new_row id CommandLine one.0 ∷ []) (without id rows)
    (good_at id (λ _. []) [] rows good (λ r g. tt) tt) (good_more CommandLine (one.0 ∷ [])) (new one.0 one.2, tt))

new_percent : (s : ValueSource) (v : Text) → is_unsigned_in 0 100 v ≡ true → IsGood (new_row percent_id s v)
new_percent s v passed = (λ is. (refl, v, [], refl, passed), λ is. absurd (true≢false (sym is)))

new_limit : (s : ValueSource) (v : Text) → is_unsigned_in 0 most v ≡ true → IsGood (new_row limit_id s v)
new_limit s v passed = (λ is. absurd (true≢false (sym is)), λ is. (refl, v, [], refl, passed))

-- a use of the help flag ends the parse
sound_help : Sound (with_index 1 (filled help_rule))
sound_help again values rows good none = absurd (some_kind _ _ (next_none _ _ none))

-- a file is no option of lints
module _ (name : Text) (index : ℕ) (no_percent : bytes_eq name percent_id ≡ false) (no_limit : bytes_eq name limit_id ≡ false) where
  abbrev file_rule : Rule
  file_rule = with_index index (filled (new_rule name))

  -- a use of it has one value
  file_use : (again : Bool) (values : List Text) (rows : List Row) → use_fault again file_rule values rows ≡ [] → (v : Text) × (values ≡ v ∷ [])
  file_use again [] rows none = absurd (some_kind _ _ none)
  file_use again (v ∷ []) rows none = (v, refl)
  file_use again (v ∷ w ∷ vs) rows none = absurd (some_kind _ _ (sym (two_values (length vs)) ∙ first_none _ _ none))

  new_file : (v : Text) → IsGood (new_row name CommandLine v)
  new_file v = (λ is. absurd (true≢false (sym is ∙ no_percent)), λ is. absurd (true≢false (sym is ∙ no_limit)))

  sound_file : Sound file_rule
  sound_file again values rows good none =
      let one = file_use again values rows none in
      rw one.1 (good_at name (more_values CommandLine (one.0 ∷ [])) (new_row name CommandLine one.0 ∷ []) (without name rows)
      (good_at name (λ _. []) [] rows good (λ r g. tt) tt) (good_more CommandLine (one.0 ∷ [])) (new_file one.0, tt))

-- an option of another number is no option of lints
module _ (name : Text) (no_percent : bytes_eq name percent_id ≡ false) (no_limit : bytes_eq name limit_id ≡ false) where
  abbrev count_rule : Rule
  count_rule = with_index 1 (filled (count_option name))

  -- a use of it has one value
  count_use : (again : Bool) (values : List Text) (rows : List Row) → use_fault again count_rule values rows ≡ [] → (v : Text) × (values ≡ v ∷ [])
  count_use again [] rows none = absurd (some_kind _ _ none)
  count_use again (v ∷ []) rows none = (v, refl)
  count_use again (v ∷ w ∷ vs) rows none = absurd (some_kind _ _ (sym (two_values (length vs)) ∙ first_none _ _ none))

  new_count : (v : Text) → IsGood (new_row name CommandLine v)
  new_count v = (λ is. absurd (true≢false (sym is ∙ no_percent)), λ is. absurd (true≢false (sym is ∙ no_limit)))

  sound_count : Sound count_rule
  sound_count again values rows good none =
      let one = count_use again values rows none in
      rw one.1 (good_at name (more_values CommandLine (one.0 ∷ [])) (new_row name CommandLine one.0 ∷ []) (without name rows)
      (good_at name (λ _. []) [] rows good (λ r g. tt) tt) (good_more CommandLine (one.0 ∷ [])) (new_count one.0, tt))

-- nor is an option of a text
module _ (name : Text) (no_percent : bytes_eq name percent_id ≡ false) (no_limit : bytes_eq name limit_id ≡ false) where
  abbrev text_rule : Rule
  text_rule = with_index 1 (filled (text_option name))

  -- a use of it has one value
  text_use : (again : Bool) (values : List Text) (rows : List Row) → use_fault again text_rule values rows ≡ [] → (v : Text) × (values ≡ v ∷ [])
  text_use again [] rows none = absurd (some_kind _ _ none)
  text_use again (v ∷ []) rows none = (v, refl)
  text_use again (v ∷ w ∷ vs) rows none = absurd (some_kind _ _ (sym (two_values (length vs)) ∙ first_none _ _ none))

  sound_text : Sound text_rule
  sound_text again values rows good none =
      let one = text_use again values rows none in
      rw one.1 (good_at name (more_values CommandLine (one.0 ∷ [])) (new_row name CommandLine one.0 ∷ []) (without name rows)
      (good_at name (λ _. []) [] rows good (λ r g. tt) tt) (good_more CommandLine (one.0 ∷ [])) (new_count name no_percent no_limit one.0, tt))

-- where no value is wanted, one is too many
no_values : (n : ℕ) → range_kinds 0 0 (suc n) ≡ WrongNumberOfValues ∷ []
no_values n = rw (ne_eqb 0 (suc n) (λ e. omega (arith, e))) refl

-- a flag is no option of lints
module _ (name : Text) (no_percent : bytes_eq name percent_id ≡ false) (no_limit : bytes_eq name limit_id ≡ false) where
  abbrev flag_rule : Rule
  flag_rule = with_index 1 (filled (flag_option name))

  -- a use of it has no value
  flag_use : (again : Bool) (values : List Text) (rows : List Row) → use_fault again flag_rule values rows ≡ [] → values ≡ []
  flag_use again [] rows none = refl
  flag_use again (v ∷ vs) rows none = absurd (some_kind _ _ (sym (no_values (length vs)) ∙ first_none _ _ none))

  new_flag : (s : ValueSource) (v : Text) → IsGood (new_row name s v)
  new_flag s v = (λ is. absurd (true≢false (sym is ∙ no_percent)), λ is. absurd (true≢false (sym is ∙ no_limit)))

  sound_flag : Sound flag_rule
  sound_flag again values rows good none =
      let there : List Text = codes "true" ∷ [] in
      rw (flag_use again values rows none) (good_at name (more_values CommandLine there) (new_row name CommandLine (codes "true") ∷ [])
      (without name rows) (good_at name (λ _. []) [] rows good (λ r g. tt) tt) (good_more CommandLine there) (new_flag CommandLine (codes "true"), tt))

abbrev first_file : Rule
first_file = file_rule (codes "FILE") 1 refl refl

-- the arguments of a command that has lints, and others
abbrev ruled_by : List Rule → List Rule
ruled_by more = first_file ∷ number_rule percent_id (codes "50") 100 ∷ number_rule limit_id (codes "1000000000") most ∷ more

sound_rules : (more : List Rule) → AreSound more → AreSound (ruled_by more)
sound_rules more sound = (
  sound_file (codes "FILE") 1 refl refl,
  (sound_number percent_id (codes "50") 100 (new_percent CommandLine), (sound_number limit_id (codes "1000000000") most (new_limit CommandLine), sound)),
)

-- these others, of `page`, `lint` and `view`
abbrev last_rules : List Rule
last_rules = with_index 1 (filled help_rule) ∷ []

abbrev times_rule : Rule
times_rule = flag_rule (codes "times") refl refl

abbrev explain_rule : Rule
explain_rule = flag_rule (codes "explain") refl refl

abbrev long_poll_rule : Rule
long_poll_rule = text_rule (codes "long-poll") refl refl

abbrev long_wait_rule : Rule
long_wait_rule = text_rule (codes "long-wait") refl refl

abbrev findings_rule : Rule
findings_rule = flag_rule (codes "findings") refl refl

abbrev by_rule : Rule
by_rule = text_rule (codes "by") refl refl

abbrev place_rule : Rule
place_rule = count_rule (codes "place") refl refl

abbrev title_rule : Rule
title_rule = text_rule (codes "title") refl refl

abbrev until_rule : Rule
until_rule = text_rule (codes "until") refl refl

abbrev since_rule : Rule
since_rule = text_rule (codes "since") refl refl

abbrev lasting_rule : Rule
lasting_rule = text_rule (codes "last") refl refl

abbrev later_rule : Rule
later_rule = file_rule (codes "AFTER") 2 refl refl

abbrev yields_rule : Rule
yields_rule = text_rule (codes "never-yielded") refl refl

abbrev page_rules : List Rule
page_rules = yields_rule ∷ long_poll_rule ∷ title_rule ∷ until_rule ∷ later_rule ∷ explain_rule ∷ last_rules

abbrev lint_rules : List Rule
lint_rules = yields_rule ∷ long_poll_rule ∷ long_wait_rule ∷ findings_rule ∷ by_rule ∷ until_rule ∷ since_rule ∷ lasting_rule ∷ explain_rule ∷ last_rules

abbrev view_rules : List Rule
view_rules = yields_rule ∷ long_poll_rule ∷ long_wait_rule ∷ findings_rule ∷ by_rule ∷ until_rule ∷ since_rule ∷ lasting_rule ∷ times_rule ∷ place_rule ∷ explain_rule ∷ last_rules

-- ---- the walk keeps rows good

module _ (c : List Rule) (again : Bool) (sound : AreSound c) where
  by_id : (o : Option Rule) → SoundIf o → (values : List Text) (rows : List Row) → AreGood rows
      → option_map_or (λ a. use_fault again a values rows) o [] ≡ [] → AreGood (used_by_id o values rows)
  by_id None sounds values rows good none = good
  by_id (Some a) sounds values rows good none = sounds again values rows good none

  settled_good : (h : Held) → AreGood h.rows → settle_fault c again h ≡ [] → AreGood (settled c h).rows
  settled_good h good none = go h.pending none
    where
      go : (p : Option (Text × List Text)) → option_map_or (λ q. option_map_or (λ a. use_fault again a q.1 h.rows) (arg_by_id c q.0) []) p [] ≡ []
          → AreGood (settled_rows c p h.rows)
      go None e = good
      go (Some q) e = by_id (arg_by_id c q.0) (found_sound (λ a. bytes_eq a.id q.0) c sound) q.1 h.rows good e

  reacted_good : (a : Rule) → Sound a → (values : List Text) (h : Held) → AreGood h.rows → react_fault c again a values h ≡ [] → AreGood (reacted c a values h).rows
  reacted_good a sounds values h good none =
      sounds again values (settled c h).rows (settled_good h good (first_none _ _ none)) (next_none (settle_fault c again h) _ none)

  option_good : (a : Rule) → Sound a → (v : Option Text) (h : Held) → AreGood h.rows → option_fault c again a v h ≡ [] → AreGood (option_met c a v h).0.rows
  option_good a sounds (Some v) h good none = reacted_good a sounds (v ∷ []) h good none
  option_good a sounds None h good none = settled_good h good none

  flag_good : (a : Rule) → Sound a → (v : Option Text) (h : Held) → AreGood h.rows
      → cond (is_some v) (TooManyValues ∷ []) (react_fault c again a [] h) ≡ [] → AreGood (flag_met c a v h).0.rows
  flag_good a sounds (Some v) h good none = good
  flag_good a sounds None h good none = reacted_good a sounds [] h good none

  long_good : (o : Option Rule) → SoundIf o → (v : Option Text) (h : Held) → AreGood h.rows → long_fault c again o v h ≡ [] → AreGood (long_met c o v h).0.rows
  long_good None sounds v h good none = good
  long_good (Some a) sounds v h good none = go (takes_values a) none
    where
      go : (b : Bool) → cond b (option_fault c again a v h) (cond (is_some v) (TooManyValues ∷ []) (react_fault c again a [] h)) ≡ []
          → AreGood (cond b (option_met c a v h) (flag_met c a v h)).0.rows
      go true e = option_good a sounds v h good e
      go false e = flag_good a sounds v h good e

  plain_good : (waiting : Waiting) (word : Text) (h : Held) → AreGood h.rows → AreGood (plain_word c waiting word h).0.rows
  plain_good idle word h good = good
  plain_good positional word h good = good
  plain_good (option id) word h good = go (arg_by_id c id)
    where
      go : (o : Option Rule) → AreGood (option_word o id word h).0.rows
      go None = good
      go (Some a) = good

  after_flag_good : (waiting : Waiting) (word : Text) (h : Held) (outcome : Outcome) → AreGood h.rows → AreGood (after_flag c waiting word h outcome).0.rows
  after_flag_good waiting word h done good = good
  after_flag_good waiting word h (waits id) good = good
  after_flag_good waiting word h plain good = plain_good waiting word h good
  after_flag_good waiting word h refused good = plain_good waiting word h good

  short_good : (o : Option Rule) → SoundIf o → (rest : Text) (h : Held) (fails : Held → Kinds) (goes : Held → Held × Outcome) → AreGood h.rows
      → ((k : Held) → AreGood k.rows → fails k ≡ [] → AreGood (goes k).0.rows)
      → short_fault c again o rest h fails ≡ [] → AreGood (short_met c o rest h goes).0.rows
  short_good None sounds rest h fails goes good later none = good
  short_good (Some a) sounds rest h fails goes good later none = go (takes_values a) none
    where
      go : (b : Bool) → cond b (option_fault c again a (attached_value rest) h) (or_else (react_fault c again a [] h) (fails (reacted c a [] h))) ≡ []
          → AreGood (cond b (option_met c a (attached_value rest) h) (goes (reacted c a [] h))).0.rows
      go true e = option_good a sounds (attached_value rest) h good e
      go false e = later (reacted c a [] h) (reacted_good a sounds [] h good (first_none _ _ e)) (next_none (react_fault c again a [] h) _ e)

  bundle_good : (k : ℕ) (flags : Text) (skip : ℕ) (so_far : Outcome) (h : Held) → AreGood h.rows → flags_fault c again k flags skip h ≡ []
      → AreGood (bundle_met c k flags skip so_far h).0.rows
  unfolding bundle_met flags_fault
  bundle_good zero flags skip so_far h good none = good
  bundle_good (suc k) flags skip so_far h good none = go (bundle_good k) (slice_get (chars flags) 0) skip none
    where
      go : ((flags : Text) (skip : ℕ) (so_far : Outcome) (h : Held) → AreGood h.rows → flags_fault c again k flags skip h ≡ [] → AreGood (bundle_met c k flags skip so_far h).0.rows)
          → (x : Option ℕ) (n : ℕ) → bundle_step_fault c again x flags n h (flags_fault c again k) ≡ []
          → AreGood (bundle_step c x flags n so_far h (bundle_met c k)).0.rows
      go later None n e = good
      go later (Some x) zero e = short_good (arg_by_short c x) (found_sound _ c sound) _ h _ _ good (λ m. later _ 0 done m) e
      go later (Some x) (suc n) e = later _ n so_far h good e

  word_good : (s : Option (Text × Option Text)) (waiting : Waiting) (word : Text) (h : Held) → AreGood h.rows → flag_word_fault c again s word h ≡ []
      → AreGood (long_or_other c waiting word s h).0.rows
  word_good (Some p) waiting word h good none =
      let met = long_met c (arg_by_long c p.0) p.1 h in
      after_flag_good waiting word met.0 met.1 (long_good (arg_by_long c p.0) (found_sound _ c sound) p.1 h good none)
  word_good None waiting word h good none = go (short_of word) none
    where
      go : (o : Option Text) → option_map_or (λ flags. bundle_fault c again flags h) o [] ≡ [] → AreGood (short_or_plain c waiting word o h).0.rows
      go None e = plain_good waiting word h good
      go (Some flags) e =
          let met = bundle c flags h in
          after_flag_good waiting word met.0 met.1 (bundle_good (length flags) flags h.skip plain (record h { skip = 0 }) good e)

-- ---- a word, and all words

module _ (s : Shape) (names : Names) (sound : AreSound s.rules) where
  word_met_good : (is_trailing : Bool) (waiting : Waiting) (position : ℕ) (word : Text) (h : Held) → AreGood h.rows
      → word_fault s names is_trailing waiting word h ≡ [] → AreGood (word_met s.rules names is_trailing waiting position word h).0.rows
  word_met_good true waiting position word h good none = good
  word_met_good false waiting position word h good none = go (subcommand_met names waiting word) none
    where
      other : (b : Bool) → cond b [] (flag_word_fault s.rules s.args_override_self (long_of word) word h) ≡ []
          → AreGood (cond b (h, trailing position) (long_or_other s.rules waiting word (long_of word) h)).0.rows
      other true e = good
      other false e = word_good s.rules s.args_override_self sound (long_of word) waiting word h good e

      go : (o : Option Text) → other_fault s o word h ≡ [] → AreGood (subcommand_or_other s.rules o waiting position word h).0.rows
      go (Some name) e = good
      go None e = other (bytes_eq word (45 ∷ 45 ∷ [])) e

  after_step_good : (word : Text) (w : Walk) (h : Held) (step : Step) → AreGood h.rows → step_fault s w.position h step ≡ []
      → AreGood (after_step s.rules word w h step).held.rows
  after_step_good word w h (next waiting) good none = good
  after_step_good word w h (trailing position) good none = good
  after_step_good word w h (subcommand name) good none = good
  after_step_good word w h value good none = go (arg_by_index s.rules w.position) none
    where
      put : (a : Rule) (b : Bool) → cond b [] (settle_fault s.rules s.args_override_self h) ≡ [] → AreGood (pushed a.id word (cond b h (settled s.rules h))).rows
      put a true e = good
      put a false e = settled_good s.rules s.args_override_self sound h good e

      go : (o : Option Rule) → option_map_or (λ a. positional_fault s.rules s.args_override_self a h) o (stray_fault s) ≡ [] → AreGood (to_positional s.rules o word w h).held.rows
      go None e = good
      go (Some a) e = put a (is_pending a h.pending && takes_several a) e

  turn_good : (w : Walk) (word : Text) → AreGood w.held.rows → turn_fault s names w word ≡ [] → AreGood (walked s.rules names w word).held.rows
  unfolding walked
  turn_good w word good none = go w.stopped none
    where
      go : (p : Option (Text × List Text))
          → cond (is_some p) [] (or_else (word_fault s names w.is_trailing w.waiting word w.held)
          (step_fault s w.position (word_met s.rules names w.is_trailing w.waiting w.position word w.held).0 (word_met s.rules names w.is_trailing w.waiting w.position word w.held).1)) ≡ []
          → AreGood (walked_from s.rules names p w word).held.rows
      go (Some p) e = good
      go None e =
          let met = word_met s.rules names w.is_trailing w.waiting w.position word w.held in
          after_step_good word w met.0 met.1 (word_met_good w.is_trailing w.waiting w.position word w.held good (first_none _ _ e))
          (next_none (word_fault s names w.is_trailing w.waiting word w.held) _ e)

  walk_good : (w : Walk) (words : List Text) → AreGood w.held.rows → walk_fault s names w words ≡ [] → AreGood (fold (walked s.rules names) w words).held.rows
  unfolding walk_fault
  walk_good w [] good none = good
  walk_good w (word ∷ words) good none =
      walk_good (walked s.rules names w word) words (turn_good w word good (first_none _ _ none)) (next_none (turn_fault s names w word) _ none)

-- ---- defaults

-- a change of other rows leaves the row of an id, and so does a row more
row_stays : (id other : Text) (s : ValueSource) (values : List Text) (new rows : List Row) → has_row id rows ≡ true
    → has_row id (at_row other (more_values s values) new rows) ≡ true
row_stays id other s values new [] has = absurd (true≢false (sym has))
row_stays id other s values new (r ∷ rs) has = go (row_stays id other s values new rs) (bytes_eq r.id other)
  where
    later : (a b c : Bool) → (b ≡ true → c ≡ true) → (a || b) ≡ true → (a || c) ≡ true
    later true b c f e = refl
    later false b c f e = f e

    go : (has_row id rs ≡ true → has_row id (at_row other (more_values s values) new rs) ≡ true) → (b : Bool)
        → has_row id (cond b (more_values s values r ++ rs) (r ∷ at_row other (more_values s values) new rs)) ≡ true
    go rest true = has
    go rest false = later (bytes_eq r.id id) (has_row id rs) (has_row id (at_row other (more_values s values) new rs)) rest has

-- the row of an id is there once it was put there
row_put : (id : Text) (s : ValueSource) (values : List Text) (new : Row) (rows : List Row) → bytes_eq new.id id ≡ true
    → has_row id (at_row id (more_values s values) (new ∷ []) rows) ≡ true
row_put id s values new [] same = rw same refl
row_put id s values new (r ∷ rs) same = go (row_put id s values new rs same) (bytes_eq r.id id) refl
  where
    put : (a b : Bool) → b ≡ true → (a || b) ≡ true
    put true b e = refl
    put false b e = e

    go : has_row id (at_row id (more_values s values) (new ∷ []) rs) ≡ true → (b : Bool) → bytes_eq r.id id ≡ b
        → has_row id (cond b (more_values s values r ++ rs) (r ∷ at_row id (more_values s values) (new ∷ []) rs)) ≡ true
    go rest true is = rw is refl
    go rest false is = put (bytes_eq r.id id) _ rest

-- a default is a row more where the option was not used
abbrev defaulted : Text → Text → List Row → List Row
defaulted id default rows = cond (has_row id rows) rows (at_row id (more_values DefaultValue (default ∷ [])) (new_row id DefaultValue default ∷ []) rows)

module _ (id default : Text) where
  default_good : (rows : List Row) → AreGood rows → IsGood (new_row id DefaultValue default) → AreGood (defaulted id default rows)
  default_good rows good new = go (has_row id rows)
    where
      go : (b : Bool) → AreGood (cond b rows (at_row id (more_values DefaultValue (default ∷ [])) (new_row id DefaultValue default ∷ []) rows))
      go true = good
      go false = good_at id (more_values DefaultValue (default ∷ [])) (new_row id DefaultValue default ∷ []) rows good (good_more DefaultValue (default ∷ [])) (new, tt)

  default_there : (rows : List Row) → bytes_eq id id ≡ true → has_row id (defaulted id default rows) ≡ true
  default_there rows same = go (has_row id rows) refl
    where
      go : (b : Bool) → has_row id rows ≡ b
          → has_row id (cond b rows (at_row id (more_values DefaultValue (default ∷ [])) (new_row id DefaultValue default ∷ []) rows)) ≡ true
      go true has = has
      go false has = row_put id DefaultValue (default ∷ []) (new_row id DefaultValue default) rows same

  default_keeps : (other : Text) (rows : List Row) → has_row other rows ≡ true → has_row other (defaulted id default rows) ≡ true
  default_keeps other rows has = go (has_row id rows)
    where
      go : (b : Bool) → has_row other (cond b rows (at_row id (more_values DefaultValue (default ∷ [])) (new_row id DefaultValue default ∷ []) rows)) ≡ true
      go true = has
      go false = row_stays other id DefaultValue (default ∷ []) (new_row id DefaultValue default ∷ []) rows has

-- an argument without a default adds no row
no_default : (id : Text) (rows : List Row) → cond (has_row id rows) rows rows ≡ rows
no_default id rows = go (has_row id rows)
  where
    go : (b : Bool) → cond b rows rows ≡ rows
    go true = refl
    go false = refl

-- good rows, with one of each number
HaveNumbers : List Row → Type 0
HaveNumbers rows = AreGood rows × (has_row percent_id rows ≡ true) × (has_row limit_id rows ≡ true)

-- which the default of another argument leaves
abbrev Keeps : Rule → Type 0
Keeps a = (rows : List Row) → HaveNumbers rows → HaveNumbers (with_default rows a)

abbrev AllKeep : List Rule → Type 0
AllKeep [] = Unit {0}
AllKeep (a ∷ more) = Keeps a × AllKeep more

all_keep : (more : List Rule) → AllKeep more → (rows : List Row) → HaveNumbers rows → HaveNumbers (fold with_default rows more)
all_keep [] keep rows numbers = numbers
all_keep (a ∷ more) keep rows numbers = all_keep more keep.1 (with_default rows a) (keep.0 rows numbers)

keeps_without : (id : Text) (rows : List Row) → HaveNumbers rows → HaveNumbers (cond (has_row id rows) rows rows)
keeps_without id rows = subst HaveNumbers (sym (no_default id rows))

keeps_flag : (name : Text) (no_percent : bytes_eq name percent_id ≡ false) (no_limit : bytes_eq name limit_id ≡ false) → Keeps (flag_rule name no_percent no_limit)
unfolding HaveNumbers
keeps_flag name no_percent no_limit rows numbers = (
  default_good name (codes "false") rows numbers.0 (new_flag name no_percent no_limit DefaultValue (codes "false")),
  default_keeps name (codes "false") percent_id rows numbers.1,
  default_keeps name (codes "false") limit_id rows numbers.2,
)

keeps_times : Keeps times_rule
keeps_times = keeps_flag (codes "times") refl refl

keeps_explain : Keeps explain_rule
keeps_explain = keeps_flag (codes "explain") refl refl

keeps_findings : Keeps findings_rule
keeps_findings = keeps_flag (codes "findings") refl refl

last_keeps : AllKeep last_rules
last_keeps = (keeps_without (codes "help"), tt)

page_keeps : AllKeep page_rules
page_keeps = (keeps_without (codes "never-yielded"), (keeps_without (codes "long-poll"), (keeps_without (codes "title"), (keeps_without (codes "until"), (keeps_without (codes "AFTER"), (keeps_explain, last_keeps))))))

lint_keeps : AllKeep lint_rules
lint_keeps = (keeps_without (codes "never-yielded"), (keeps_without (codes "long-poll"), (keeps_without (codes "long-wait"), (keeps_findings, (keeps_without (codes "by"), (keeps_without (codes "until"), (keeps_without (codes "since"), (keeps_without (codes "last"), (keeps_explain, last_keeps)))))))))

view_keeps : AllKeep view_rules
view_keeps = (keeps_without (codes "never-yielded"), (keeps_without (codes "long-poll"), (keeps_without (codes "long-wait"), (keeps_findings, (keeps_without (codes "by"), (keeps_without (codes "until"), (keeps_without (codes "since"), (keeps_without (codes "last"), (keeps_times, (keeps_without (codes "place"), (keeps_explain, last_keeps)))))))))))

both_defaults : (rows : List Row) → AreGood rows → HaveNumbers (defaulted limit_id (codes "1000000000") (defaulted percent_id (codes "50") rows))
unfolding HaveNumbers
both_defaults rows good =
    let percents = defaulted percent_id (codes "50") rows in
    let first : AreGood percents = default_good percent_id (codes "50") rows good (new_percent DefaultValue (codes "50") refl) in (
      default_good limit_id (codes "1000000000") percents first (new_limit DefaultValue (codes "1000000000") refl),
      default_keeps limit_id (codes "1000000000") percent_id percents (default_there percent_id (codes "50") rows refl),
      default_there limit_id (codes "1000000000") percents refl,
    )

with_defaults : (more : List Rule) → AllKeep more → (rows : List Row) → AreGood rows → HaveNumbers (fold with_default rows (ruled_by more))
with_defaults more keep rows good =
    subst (λ (r : List Row). HaveNumbers (fold with_default r (number_rule percent_id (codes "50") 100 ∷ number_rule limit_id (codes "1000000000") most ∷ more)))
    (sym (no_default (codes "FILE") rows)) (all_keep more keep _ (both_defaults rows good))

-- ---- numbers that passed are read

text_of_row : (n : ℕ) (r : Row) → NumberRow n r → (text : Text) × (row_text r ≡ Some text) × (is_unsigned_in 0 n text ≡ true)
text_of_row n r row = (row.1, ap₂ (λ (how : Reading) (vs : List Text). option_map (read_as how) (slice_get vs 0)) row.0 row.3, row.4)

row_found : (id : Text) (n : ℕ) (rows : List Row) → AreGood rows → ((r : Row) → IsGood r → bytes_eq r.id id ≡ true → NumberRow n r) → has_row id rows ≡ true
    → (text : Text) × (one_of id rows ≡ Some text) × (is_unsigned_in 0 n text ≡ true)
row_found id n [] good number has = absurd (true≢false (sym has))
row_found id n (r ∷ rs) good number has = go (row_found id n rs good.1 number) (bytes_eq r.id id) refl has
  where
    go : (has_row id rs ≡ true → (text : Text) × (one_of id rs ≡ Some text) × (is_unsigned_in 0 n text ≡ true)) → (b : Bool) → bytes_eq r.id id ≡ b
        → (b || has_row id rs) ≡ true
        → (text : Text) × (option_and_then row_text (cond b (Some r) (find (λ x. bytes_eq x.id id) rs)) ≡ Some text) × (is_unsigned_in 0 n text ≡ true)
    go rest true is e = text_of_row n r (number r good.0 is)
    go rest false is e = rest e

-- a number up to n that is below 2^64, as an option reads it
number_passed : (n : ℕ) (text : Text) → nat_le n most ≡ true → is_unsigned_in 0 n text ≡ true
    → (number_of text ≡ Some (digits_value 10 (without_leading_plus text))) × (nat_le (digits_value 10 (without_leading_plus text)) n ≡ true)
number_passed n text small passed =
    let within = accepts-Accepts false (vp.Unsigned 0 n) text passed in
    let wide : is_unsigned_in 0 most text ≡ true = Accepts-accepts false (vp.Unsigned 0 most) text (within.0, within.1, within.2, omega (arith, within.1)) in
    let value = digits_value 10 (without_leading_plus text) in
    let in_range = (both (nat_lt value (2 ^ 64)) _ (both (is_numeral (without_leading_plus text)) _ passed).1).1 in
    (rw wide refl, (both (nat_le 0 value) _ in_range).1)

first_false : (a b : Bool) → (a || b) ≡ false → a ≡ false
first_false true b e = absurd (true≢false e)
first_false false b e = refl

-- the limit of a first poll is there, as a number if no time is said
limit_there : (number : Option ℕ) (said : Option Text) → IsSome number → (is_some said && not (is_some (option_map_or time_of said number))) ≡ false
    → IsSome (option_map_or time_of said number)
limit_there number None there timed = there
limit_there number (Some t) there timed = go (time_of t) timed
  where
    go : (time : Option ℕ) → not (is_some time) ≡ false → IsSome time
    go None timed = absurd (true≢false timed)
    go (Some n) timed = refl

lints_of_both : (percent : ℕ) (limit : Option ℕ) → nat_le percent 100 ≡ true → IsSome limit → IsSome (lints_with percent limit)
lints_of_both percent None small some = absurd (true≢false (sym some))
lints_of_both percent (Some limit) small some = rw small refl

-- where no time is misread, the lints are there
lints_there : (name : Text) (rows : List Row) → HaveNumbers rows → names_no_time name rows ≡ false → IsSome (lints_in rows)
unfolding HaveNumbers
lints_there name rows numbers timed =
    let percent = row_found percent_id 100 rows numbers.0 (λ r g. g.0) numbers.1 in
    let limit = row_found limit_id most rows numbers.0 (λ r g. g.1) numbers.2 in
    let percent_is = number_passed 100 percent.0 refl percent.2 in
    let limit_is = number_passed most limit.0 refl limit.2 in
    let number : IsSome (number_at limit_id rows) = rw (limit.1, limit_is.0) refl in
    let said = limit_there (number_at limit_id rows) (text_at (codes "never-yielded") rows) number (first_false _ _ (first_false _ _ timed)) in
    rw (percent.1, percent_is.0) (lints_of_both _ (limit_at rows) percent_is.1 said)

-- ---- the command that the words name

view_asks : (view : View) (options : List Row) (by_place : Bool) (lints : Option LintsView) → IsSome lints
    → IsSome (option_and_then (λ l. Some (view_by view options by_place l)) lints)
view_asks view options by_place None some = absurd (true≢false (sym some))
view_asks view options by_place (Some l) some = refl

-- something that a view adds tasks up by, or nothing
view_asks_of : (view : View) (options : List Row) (by_place : Option Bool) → not (is_some by_place) ≡ false → IsSome (lints_in options)
    → IsSome (option_and_then (view_of view options) by_place)
view_asks_of view options None wrong some = absurd (true≢false wrong)
view_asks_of view options (Some by_place) right some = view_asks view options by_place (lints_in options) some

page_asks_of : (options : List Row) (lints : Option LintsView) → IsSome lints → IsSome (option_and_then (λ l. Some (page_by options l)) lints)
page_asks_of options None some = absurd (true≢false (sym some))
page_asks_of options (Some l) some = refl

-- a column that is one
watch_asks_of : (options : List Row) (column : Option Column) → not (is_some column) ≡ false
    → IsSome (option_and_then (λ sort. Some (Watch (watch_by sort options))) column)
watch_asks_of options None wrong = absurd (true≢false wrong)
watch_asks_of options (Some sort) right = refl

-- something that tasks are told apart by
metrics_asks_of : (options : List Row) (by : Option By) → not (is_some by) ≡ false
    → IsSome (option_and_then (λ b. Some (Metrics (metrics_by b options))) by)
metrics_asks_of options None wrong = absurd (true≢false wrong)
metrics_asks_of options (Some by) right = refl

abbrev there : App
there = built program

-- one of the commands
abbrev IsCommand : Text → Type 0
IsCommand name = (name ≡ codes "run") ⊎ ((name ≡ codes "view") ⊎ ((name ≡ codes "lint") ⊎ ((name ≡ codes "page") ⊎ ((name ≡ codes "watch") ⊎ ((name ≡ codes "metrics") ⊎ ((name ≡ codes "compare") ⊎ (name ≡ codes "demo")))))))

abbrev MeetsCommand : Option Text → Type 0
MeetsCommand None = Unit {0}
MeetsCommand (Some name) = IsCommand name

abbrev StopsAtCommand : Option (Text × List Text) → Type 0
StopsAtCommand None = Unit {0}
StopsAtCommand (Some p) = IsCommand p.0

abbrev EntersCommand : Step → Type 0
EntersCommand (next waiting) = Unit {0}
EntersCommand (trailing position) = Unit {0}
EntersCommand (subcommand name) = IsCommand name
EntersCommand value = Unit {0}

abbrev met : Bool → Bool → Bool → Bool → Bool → Bool → Bool → Bool → Bool → Option (Text × List Text)
met a b c d e f k g i = cond a (Some (codes "run", [])) (cond b (Some (codes "view", [])) (cond c (Some (codes "lint", [])) (cond d (Some (codes "page", [])) (cond e (Some (codes "watch", [])) (cond f (Some (codes "metrics", [])) (cond k (Some (codes "compare", [])) (cond g (Some (codes "demo", [])) (cond i (Some (codes "help", [])) None))))))))

-- `help` is answered, so that no parse enters it
meets_command : (waiting : Waiting) (word : Text) (h : Held) → other_fault there.top (subcommand_met (names_of there) waiting word) word h ≡ []
    → MeetsCommand (subcommand_met (names_of there) waiting word)
meets_command (option id) word h none = tt
meets_command positional word h none = tt
meets_command idle word h none = go (bytes_eq (codes "run") word || false) (bytes_eq (codes "view") word || false) (bytes_eq (codes "lint") word || false) (bytes_eq (codes "page") word || false) (bytes_eq (codes "watch") word || false) (bytes_eq (codes "metrics") word || false) (bytes_eq (codes "compare") word || false) (bytes_eq (codes "demo") word || false) (bytes_eq (codes "help") word || false) none
  where
    go : (a b c d e f k g i : Bool) → other_fault there.top (option_map (λ s. s.0) (met a b c d e f k g i)) word h ≡ [] → MeetsCommand (option_map (λ s. s.0) (met a b c d e f k g i))
    go true b c d e f k g i none = inl refl
    go false true c d e f k g i none = inr (inl refl)
    go false false true d e f k g i none = inr (inr (inl refl))
    go false false false true e f k g i none = inr (inr (inr (inl refl)))
    go false false false false true f k g i none = inr (inr (inr (inr (inl refl))))
    go false false false false false true k g i none = inr (inr (inr (inr (inr (inl refl)))))
    go false false false false false false true g i none = inr (inr (inr (inr (inr (inr (inl refl))))))
    go false false false false false false false true i none = inr (inr (inr (inr (inr (inr (inr refl))))))
    go false false false false false false false false true none = absurd (some_kind _ _ none)
    go false false false false false false false false false none = tt

module _ (c : List Rule) where
  plain_enters : (waiting : Waiting) (word : Text) (h : Held) → EntersCommand (plain_word c waiting word h).1
  plain_enters idle word h = tt
  plain_enters positional word h = tt
  plain_enters (option id) word h = tt

  after_flag_enters : (waiting : Waiting) (word : Text) (h : Held) (outcome : Outcome) → EntersCommand (after_flag c waiting word h outcome).1
  after_flag_enters waiting word h done = tt
  after_flag_enters waiting word h (waits id) = tt
  after_flag_enters waiting word h plain = plain_enters waiting word h
  after_flag_enters waiting word h refused = plain_enters waiting word h

  other_enters : (s : Option (Text × Option Text)) (waiting : Waiting) (word : Text) (h : Held) → EntersCommand (long_or_other c waiting word s h).1
  other_enters (Some p) waiting word h =
      let met = long_met c (arg_by_long c p.0) p.1 h in
      after_flag_enters waiting word met.0 met.1
  other_enters None waiting word h = go (short_of word)
    where
      go : (o : Option Text) → EntersCommand (short_or_plain c waiting word o h).1
      go None = plain_enters waiting word h
      go (Some flags) =
          let met = bundle c flags h in
          after_flag_enters waiting word met.0 met.1

word_enters : (is_trailing : Bool) (waiting : Waiting) (position : ℕ) (word : Text) (h : Held)
    → word_fault there.top (names_of there) is_trailing waiting word h ≡ []
    → EntersCommand (word_met there.top.rules (names_of there) is_trailing waiting position word h).1
word_enters true waiting position word h none = tt
word_enters false waiting position word h none = go (subcommand_met (names_of there) waiting word) (meets_command waiting word h none)
  where
    other : (b : Bool) → EntersCommand (cond b (h, trailing position) (long_or_other there.top.rules waiting word (long_of word) h)).1
    other true = tt
    other false = other_enters there.top.rules (long_of word) waiting word h

    go : (o : Option Text) → MeetsCommand o → EntersCommand (subcommand_or_other there.top.rules o waiting position word h).1
    go (Some name) e = e
    go None e = other (bytes_eq word (45 ∷ 45 ∷ []))

step_stops : (word : Text) (w : Walk) (h : Held) (step : Step) → StopsAtCommand w.stopped → EntersCommand step
    → StopsAtCommand (after_step there.top.rules word w h step).stopped
step_stops word w h (next waiting) at enters = at
step_stops word w h (trailing position) at enters = at
step_stops word w h (subcommand name) at enters = enters
step_stops word w h value at enters = go (arg_by_index there.top.rules w.position)
  where
    go : (o : Option Rule) → StopsAtCommand (to_positional there.top.rules o word w h).stopped
    go None = at
    go (Some a) = tt

turn_stops : (w : Walk) (word : Text) → StopsAtCommand w.stopped → turn_fault there.top (names_of there) w word ≡ []
    → StopsAtCommand (walked there.top.rules (names_of there) w word).stopped
unfolding walked
turn_stops w word at none = go w.stopped at none
  where
    go : (p : Option (Text × List Text)) → StopsAtCommand p
        → cond (is_some p) [] (or_else (word_fault there.top (names_of there) w.is_trailing w.waiting word w.held)
        (step_fault there.top w.position (word_met there.top.rules (names_of there) w.is_trailing w.waiting w.position word w.held).0
        (word_met there.top.rules (names_of there) w.is_trailing w.waiting w.position word w.held).1)) ≡ []
        → StopsAtCommand (walked_from there.top.rules (names_of there) p w word).stopped
    go (Some p) stops e = stops
    go None stops e =
        let met = word_met there.top.rules (names_of there) w.is_trailing w.waiting w.position word w.held in
        step_stops word w met.0 met.1 at (word_enters w.is_trailing w.waiting w.position word w.held (first_none _ _ e))

walk_stops : (w : Walk) (words : List Text) → StopsAtCommand w.stopped → walk_fault there.top (names_of there) w words ≡ []
    → StopsAtCommand (fold (walked there.top.rules (names_of there)) w words).stopped
unfolding walk_fault
walk_stops w [] at none = at
walk_stops w (word ∷ words) at none =
    walk_stops (walked there.top.rules (names_of there) w word) words (turn_stops w word at (first_none _ _ none))
    (next_none (turn_fault there.top (names_of there) w word) _ none)

-- a command whose own words are taken has both numbers
module _ (more : List Rule) (sound_more : AreSound more) (keep : AllKeep more) where
  numbers_there : (s : Shape) (words : List Text) → s.rules ≡ ruled_by more → level_fault s [] nothing_held words false [] ≡ []
      → HaveNumbers (rows_after s.rules [] words)
  numbers_there s words is none =
      let sound : AreSound s.rules = subst AreSound (sym is) (sound_rules more sound_more) in
      let end = (walk s.rules [] nothing_held words).held in
      let walks = walk_good s [] sound (walk_from nothing_held) words tt (first_none _ _ none) in
      let after = next_none (walk_fault s [] (walk_from nothing_held) words) _ none in
      let held = settled_good s.rules s.args_override_self sound end walks (first_none _ _ after) in
      subst (λ c. HaveNumbers (fold with_default (settled s.rules end).rows c)) (sym is) (with_defaults more keep (settled s.rules end).rows held)

-- where the words after a command are taken, and its options name what there is, it asks for something
abbrev TakenAsks : Text → List Text → Type 0
TakenAsks name words = entered_fault there (Some (name, words)) ≡ [] → names_nothing (entered there (Some (name, words))) ≡ false
    → IsSome (asked_in (entered there (Some (name, words))))

run_asks : (words : List Text) → TakenAsks (codes "run") words
run_asks words none named = refl

-- the options after a command
abbrev options_in : Option (Text × List Row) → List Row
options_in None = []
options_in (Some command) = command.1

-- where an option names something, so do the keys among them
keys_named : (name : Text) (options : List Row) (b : Bool)
    → (names_no_time name options || (names_no_moment options || (names_no_span name options || (explains_two options || b)))) ≡ false → b ≡ false
keys_named name options b named =
    last_false (explains_two options) b
    (last_false (names_no_span name options) _ (last_false (names_no_moment options) _ (last_false (names_no_time name options) _ named)))
  where
    last_false : (a b : Bool) → (a || b) ≡ false → b ≡ false
    last_false true b named = absurd (true≢false named)
    last_false false b named = named

-- and times are read
times_named : (name : Text) (options : List Row) → names_nothing (Some (name, options)) ≡ false → names_no_time name options ≡ false
times_named name options named = first_false (names_no_time name options) _ named

show_named : (options : List Row) → names_nothing (Some (codes "view", options)) ≡ false → IsSome (lints_in options) → IsSome (asked_in (Some (codes "view", options)))
show_named options named = view_asks_of Report options (by_place_at Report options) (keys_named (codes "view") options _ named)

show_asks : (words : List Text) → TakenAsks (codes "view") words
show_asks words none named =
    show_named (options_in (entered there (Some (codes "view", words)))) named
    (lints_there (codes "view") _ (numbers_there view_rules (sound_text (codes "never-yielded") refl refl, (sound_text (codes "long-poll") refl refl, (sound_text (codes "long-wait") refl refl, (sound_flag (codes "findings") refl refl, (sound_text (codes "by") refl refl, (sound_text (codes "until") refl refl, (sound_text (codes "since") refl refl, (sound_text (codes "last") refl refl, (sound_flag (codes "times") refl refl, (sound_count (codes "place") refl refl, (sound_flag (codes "explain") refl refl, (sound_help, tt)))))))))))) view_keeps _ words refl none) (times_named (codes "view") (options_in (entered there (Some (codes "view", words)))) named))

warn_named : (options : List Row) → names_nothing (Some (codes "lint", options)) ≡ false → IsSome (lints_in options) → IsSome (asked_in (Some (codes "lint", options)))
warn_named options named = view_asks_of Lint options (by_place_at Lint options) (keys_named (codes "lint") options _ named)

lint_asks : (words : List Text) → TakenAsks (codes "lint") words
lint_asks words none named =
    warn_named (options_in (entered there (Some (codes "lint", words)))) named
    (lints_there (codes "lint") _ (numbers_there lint_rules (sound_text (codes "never-yielded") refl refl, (sound_text (codes "long-poll") refl refl, (sound_text (codes "long-wait") refl refl, (sound_flag (codes "findings") refl refl, (sound_text (codes "by") refl refl, (sound_text (codes "until") refl refl, (sound_text (codes "since") refl refl, (sound_text (codes "last") refl refl, (sound_flag (codes "explain") refl refl, (sound_help, tt)))))))))) lint_keeps _ words refl none) (times_named (codes "lint") (options_in (entered there (Some (codes "lint", words)))) named))

page_named : (options : List Row) → IsSome (lints_in options) → IsSome (asked_in (Some (codes "page", options)))
page_named options some = page_asks_of options (lints_in options) some

page_asks : (words : List Text) → TakenAsks (codes "page") words
page_asks words none named =
    page_named (options_in (entered there (Some (codes "page", words))))
    (lints_there (codes "page") _ (numbers_there page_rules (sound_text (codes "never-yielded") refl refl, (sound_text (codes "long-poll") refl refl, (sound_text (codes "title") refl refl, (sound_text (codes "until") refl refl, (sound_file (codes "AFTER") 2 refl refl, (sound_flag (codes "explain") refl refl, (sound_help, tt))))))) page_keeps _ words refl none) (times_named (codes "page") (options_in (entered there (Some (codes "page", words)))) named))

watch_named : (options : List Row) → names_nothing (Some (codes "watch", options)) ≡ false → IsSome (asked_in (Some (codes "watch", options)))
watch_named options named = watch_asks_of options (column_at options) (keys_named (codes "watch") options _ named)

watch_asks : (words : List Text) → TakenAsks (codes "watch") words
watch_asks words none named = watch_named (options_in (entered there (Some (codes "watch", words)))) named

metrics_named : (options : List Row) → names_nothing (Some (codes "metrics", options)) ≡ false → IsSome (asked_in (Some (codes "metrics", options)))
metrics_named options named = metrics_asks_of options (by_at options) (keys_named (codes "metrics") options _ named)

metrics_asks : (words : List Text) → TakenAsks (codes "metrics") words
metrics_asks words none named = metrics_named (options_in (entered there (Some (codes "metrics", words)))) named

compare_asks : (words : List Text) → TakenAsks (codes "compare") words
compare_asks words none named = refl

demo_asks : (words : List Text) → TakenAsks (codes "demo") words
demo_asks words none named = refl

stop_asks : (stop : Option (Text × List Text)) (rows : List Row) → StopsAtCommand stop → entered_fault there stop ≡ []
    → check_fault there.top rows (is_some (entered there stop)) ≡ [] → names_nothing (entered there stop) ≡ false → IsSome (asked_in (entered there stop))
stop_asks None rows at none checked named = absurd (some_kind _ _ checked)
stop_asks (Some (name, words)) rows (inl is) none checked named = subst (λ n. TakenAsks n words) (sym is) (run_asks words) none named
stop_asks (Some (name, words)) rows (inr (inl is)) none checked named = subst (λ n. TakenAsks n words) (sym is) (show_asks words) none named
stop_asks (Some (name, words)) rows (inr (inr (inl is))) none checked named = subst (λ n. TakenAsks n words) (sym is) (lint_asks words) none named
stop_asks (Some (name, words)) rows (inr (inr (inr (inl is)))) none checked named = subst (λ n. TakenAsks n words) (sym is) (page_asks words) none named
stop_asks (Some (name, words)) rows (inr (inr (inr (inr (inl is))))) none checked named = subst (λ n. TakenAsks n words) (sym is) (watch_asks words) none named
stop_asks (Some (name, words)) rows (inr (inr (inr (inr (inr (inl is)))))) none checked named = subst (λ n. TakenAsks n words) (sym is) (metrics_asks words) none named
stop_asks (Some (name, words)) rows (inr (inr (inr (inr (inr (inr (inl is))))))) none checked named = subst (λ n. TakenAsks n words) (sym is) (compare_asks words) none named
stop_asks (Some (name, words)) rows (inr (inr (inr (inr (inr (inr (inr is))))))) none checked named = subst (λ n. TakenAsks n words) (sym is) (demo_asks words) none named

-- words that a parse takes, and whose options name what there is, ask for something
parsed_words_ask : (words : List Text) → fault_of program words ≡ [] → names_nothing (subcommand_of program words) ≡ false → IsSome (asked words)
parsed_words_ask words none named =
    let given = argument_words program words in
    let end = walk there.top.rules (names_of there) nothing_held given in
    let stops = walk_stops (walk_from nothing_held) given tt (first_none _ _ none) in
    let inside = next_none (walk_fault there.top (names_of there) (walk_from nothing_held) given) _ none in
    let settles = next_none (entered_fault there end.stopped) _ inside in
    let defaults = next_none (settle_fault there.top.rules there.top.args_override_self end.held) _ settles in
    let checks = next_none (defaults_fault (settled there.top.rules end.held).rows there.top.rules) _ defaults in
    stop_asks end.stopped (finished there.top.rules end.held) stops (first_none _ _ inside) checks named

named_if : (b : Bool) → cond b (InvalidValue ∷ []) [] ≡ [] → b ≡ false
named_if false none = refl
named_if true none = absurd (some_kind _ _ none)

-- words that are taken ask for something
pub taken_words_ask : (words : List Text) → refusals words ≡ [] → IsSome (asked words)
taken_words_ask words none =
    let command = subcommand_of program words in
    parsed_words_ask words (first_none (fault_of program words) (name_fault command) none)
    (named_if (names_nothing command) (next_none (fault_of program words) (name_fault command) none))
