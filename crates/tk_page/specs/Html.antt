-- Where a reader of HTML stands after a text. It reads byte by byte, as the standard of HTML says.
use Rattle.std.specs.Prelude.{ℕ, ◌==◌, ltb, ◌+◌, List, [], ◌∷◌, ◌++◌, codes, fold, if◌then◌else◌, Bool, true, false, ◌&&◌, ◌||◌}

-- where the reader stands
pub data Where : Type 0 where
  -- between tags, where a text is a text
  text : Where
  -- after `<`, after `</`, after `<!`, and in such a declaration up to its `>`
  opened : Where
  ending : Where
  declared : Where
  declaration : Where
  -- in a tag's name, with its letters so far: that of an end tag begins with `/`
  name : List ℕ → Where
  -- in the tag of this name: before an attribute, in an attribute's name, after its `=`, and in its value up to this quote
  tag : List ℕ → Where
  attribute : List ℕ → Where
  equals : List ℕ → Where
  value : List ℕ → ℕ → Where
  -- in what an element of this name holds, like `style` and `script`, where no tag begins but its own end tag
  raw : List ℕ → Where
  -- the same after a `<`, with what is left to read of that end tag
  leaving : List ℕ → List ℕ → Where
  -- in something of which this tells no more: a comment, a value without quotes, an element with rules of its own, or an error by the standard
  lost : Where

-- two words are the same, byte by byte
abbrev pub is_same : List ℕ → List ℕ → Bool
is_same [] [] = true
is_same [] (y ∷ ys) = false
is_same (x ∷ xs) [] = false
is_same (x ∷ xs) (y ∷ ys) = x == y && is_same xs ys

-- a word is among these
abbrev pub is_among : List (List ℕ) → List ℕ → Bool
is_among [] word = false
is_among (w ∷ ws) word = is_same w word || is_among ws word

-- white space: a tab, a line feed, a form feed, a carriage return, or a space
abbrev pub is_space : ℕ → Bool
is_space b = b == 9 || b == 10 || b == 12 || b == 13 || b == 32

abbrev pub is_capital : ℕ → Bool
is_capital b = ltb 64 b && ltb b 91

abbrev pub is_letter : ℕ → Bool
is_letter b = is_capital b || (ltb 96 b && ltb b 123)

-- a byte of a tag's name: the case of letters is nothing
abbrev pub small : ℕ → ℕ
small b = if is_capital b then b + 32 else b

-- the elements that hold no markup
abbrev pub raw_names : List (List ℕ)
raw_names = codes "style" ∷ codes "script" ∷ codes "title" ∷ codes "textarea" ∷ codes "xmp" ∷ codes "iframe" ∷ codes "noembed" ∷ codes "noframes" ∷ []

-- the elements with rules of their own
abbrev pub own_names : List (List ℕ)
own_names = codes "svg" ∷ codes "math" ∷ codes "noscript" ∷ codes "plaintext" ∷ codes "select" ∷ codes "template" ∷ codes "frameset" ∷ []

-- after the `>` of the tag of this name
abbrev pub after_tag : List ℕ → Where
after_tag n = if is_among raw_names n then raw n else (if is_among own_names n then lost else text)

-- what is left to read of an end tag after a `<`
abbrev pub leave : List ℕ → Where
leave n = leaving n (47 ∷ n)

-- after one more byte of the end tag of an element that holds no markup
abbrev pub leaving_with : List ℕ → List ℕ → ℕ → Where
leaving_with n [] b = if b == 62 then text else (if is_space b || b == 47 then tag (47 ∷ n) else (if b == 60 then leave n else raw n))
leaving_with n (x ∷ rest) b = if small b == x then leaving n rest else (if b == 60 then leave n else (if b == 33 then lost else raw n))

-- after one more byte
abbrev pub step : Where → ℕ → Where
step text b = if b == 60 then opened else text
step opened b = if is_letter b then name (small b ∷ []) else (if b == 47 then ending else (if b == 33 then declared else lost))
step ending b = if is_letter b then name (47 ∷ small b ∷ []) else lost
step declared b = if b == 45 then lost else (if b == 62 then text else declaration)
step declaration b = if b == 62 then text else declaration
step (name n) b =
    if is_space b || b == 47 then tag n else
    (if b == 62 then after_tag n else
    (if b == 60 then lost else name (n ++ small b ∷ [])))
step (tag n) b =
    if is_space b || b == 47 then tag n else
    (if b == 62 then after_tag n else
    (if b == 61 || b == 34 || b == 39 || b == 60 then lost else attribute n))
step (attribute n) b =
    if is_space b || b == 47 then tag n else
    (if b == 62 then after_tag n else
    (if b == 61 then equals n else
    (if b == 34 || b == 39 || b == 60 then lost else attribute n)))
step (equals n) b = if b == 34 || b == 39 then value n b else lost
step (value n quote) b = if b == quote then tag n else value n quote
step (raw n) b = if b == 60 then leave n else raw n
step (leaving n rest) b = leaving_with n rest b
step lost b = lost

-- where the reader of a text stands at its end
abbrev pub place_of : List ℕ → Where
place_of = fold step text

-- a text begins with a tag, but for white space
abbrev pub begins_with_tag : List ℕ → Bool
begins_with_tag [] = false
begins_with_tag (b ∷ bs) = if is_space b then begins_with_tag bs else (b == 60 && is_letter_first bs) where
  is_letter_first : List ℕ → Bool
  is_letter_first [] = false
  is_letter_first (c ∷ cs) = is_letter c
