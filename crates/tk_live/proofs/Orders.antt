-- Calls in an order that pieces allow, with one call more and with those of a block.
use Rattle.std.proofs.Common.{◌≡◌, List, [], ◌∷◌, ◌++◌, refl, ap, sym, ◌∙◌, append_assoc}
use Rattle.std.proofs.lemmas.List.{append-nil}
use Rattle.tk_live.specs.Pasts.{Piece, one, beside, AreBeside, InOrder, outside_blocks}

module _ {C : Type 0} where
  -- a call more
  pub order_push : (pieces : List (Piece C)) (calls : List C) (c : C) → InOrder pieces calls → InOrder (pieces ++ one c ∷ []) (calls ++ c ∷ [])
  order_push [] calls c is = ([], ap (λ (l : List C). l ++ c ∷ []) is, refl)
  order_push (one d ∷ pieces) calls c o = (o.0 ++ c ∷ [], ap (λ (l : List C). l ++ c ∷ []) o.1, order_push pieces o.0 c o.2)
  order_push (beside lists ∷ pieces) calls c o = (o.0, o.1 ++ c ∷ [], ap (λ (l : List C). l ++ c ∷ []) o.2 ∙ append_assoc o.0 o.1 (c ∷ []), o.3, order_push pieces o.1 c o.4)

  -- the calls of a block more
  pub order_beside : (pieces : List (Piece C)) (calls : List C) (lists : List (List C)) (these : List C) → InOrder pieces calls → AreBeside lists these
      → InOrder (pieces ++ beside lists ∷ []) (calls ++ these)
  order_beside [] calls lists these is beside_are = (these, [], ap (λ (l : List C). l ++ these) is ∙ sym (append-nil these), beside_are, refl)
  order_beside (one d ∷ pieces) calls lists these o beside_are = (o.0 ++ these, ap (λ (l : List C). l ++ these) o.1, order_beside pieces o.0 lists these o.2 beside_are)
  order_beside (beside others ∷ pieces) calls lists these o beside_are =
      (o.0, o.1 ++ these, ap (λ (l : List C). l ++ these) o.2 ∙ append_assoc o.0 o.1 these, o.3, order_beside pieces o.1 lists these o.4 beside_are)

  -- a call more is one outside blocks
  pub outside_push : (pieces : List (Piece C)) (c : C) → outside_blocks (pieces ++ one c ∷ []) ≡ outside_blocks pieces ++ c ∷ []
  outside_push [] c = refl
  outside_push (one d ∷ pieces) c = ap (λ (l : List C). d ∷ l) (outside_push pieces c)
  outside_push (beside lists ∷ pieces) c = outside_push pieces c

  -- and those of a block aren't
  pub outside_beside : (pieces : List (Piece C)) (lists : List (List C)) → outside_blocks (pieces ++ beside lists ∷ []) ≡ outside_blocks pieces
  outside_beside [] lists = refl
  outside_beside (one d ∷ pieces) lists = ap (λ (l : List C). d ∷ l) (outside_beside pieces lists)
  outside_beside (beside others ∷ pieces) lists = outside_beside pieces lists
