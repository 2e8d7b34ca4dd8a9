-- What is read of an option's number.
use Rattle.std.proofs.Common.{◌≡◌, ℕ, List, Bool, true, false, cond, refl, sym, ap, ◌∙◌, Option, Some, None, arith}
use Rattle.std.specs.Prelude.{Result, Ok, Err, option_and_then}
use Rattle.std.specs.Str.Parse.{ParsesUnsigned, digits_value, without_leading_plus}
use Rattle.clap.specs.Matches.{ReadsOne}
use Rattle.clap.specs.ValueTests.{is_unsigned_in}
use Rattle.clap.specs.declared.builder.value_parser.ValueParser.TheVariants as vp
use Rattle.clap.proofs.ValueTestLemmas.{Accepts-accepts, accepts-Accepts}
use Rattle.taskscope.specs.Moments.{number_of}

abbrev most : ℕ
most = 18446744073709551615

abbrev value_of : List ℕ → ℕ
value_of text = digits_value 10 (without_leading_plus text)

-- what `u64` reads of a text is its number
pub reads_number : (E : Type 0) (G : List ℕ → Result ℕ E → Type 0) → ((u : List ℕ) (x : Result ℕ E) → G u x → ParsesUnsigned 64 10 u x)
    → (t : List ℕ) (r : Option ℕ) → ReadsOne G t r → r ≡ number_of t
reads_number E G only t (Some v) h =
    let parsed = only t (Ok v) h in
    let taken : is_unsigned_in 0 most t ≡ true = Accepts-accepts false (vp.Unsigned 0 most) t (parsed.0.0, parsed.0.1, omega arith, omega (arith, parsed.0.1)) in
    ap Some parsed.1 ∙ sym (ap (λ b. cond b (Some (value_of t)) None) taken)
reads_number E G only t None h = go (is_unsigned_in 0 most t) refl
  where
    go : (b : Bool) → is_unsigned_in 0 most t ≡ b → None ≡ cond b (Some (value_of t)) None
    go false is = refl
    go true is =
        let passed = accepts-Accepts false (vp.Unsigned 0 most) t is in
        absurd (only t (Err h.0) h.1 (passed.0, passed.1))

pub number_read : (E : Type 0) (G : List ℕ → Result ℕ E → Type 0) → ((u : List ℕ) (x : Result ℕ E) → G u x → ParsesUnsigned 64 10 u x)
    → (text : Option (List ℕ)) (r : Option ℕ) → (text ≡ None → r ≡ None) → ((t : List ℕ) → text ≡ Some t → ReadsOne G t r)
    → r ≡ option_and_then number_of text
number_read E G only None r none some = none refl
number_read E G only (Some t) r none some = reads_number E G only t r (some t refl)
