-- A full name appended to a text, piece by piece.
-- serves: text_of_full
use Rattle.std.proofs.Common.{◌≡◌, ℕ, List, [], ◌∷◌, ◌++◌, append_assoc, ap, refl, ◌∙◌}
use Rattle.std.specs.Prelude.{codes}

-- one piece more
more : (old front piece text new : List ℕ) → text ≡ old ++ front → new ≡ text ++ piece → new ≡ old ++ (front ++ piece)
more old front piece text new is put = put ∙ ap (λ (t : List ℕ). t ++ piece) is ∙ append_assoc old front piece

-- the text after the local name
behind_name : (name digits lang : List ℕ) → ((((name ++ 40 ∷ []) ++ digits) ++ 47 ∷ []) ++ lang) ++ 41 ∷ [] ≡ name ++ ((((codes "(" ++ digits) ++ codes "/") ++ lang) ++ codes ")")
behind_name name digits lang =
    let one : (name ++ 40 ∷ []) ++ digits ≡ name ++ (40 ∷ digits) = append_assoc name (40 ∷ []) digits in
    let counted = (name ++ 40 ∷ []) ++ digits in
    let two : counted ++ 47 ∷ [] ≡ name ++ ((40 ∷ digits) ++ 47 ∷ []) = more name (40 ∷ digits) (47 ∷ []) counted (counted ++ 47 ∷ []) one refl in
    let closed = counted ++ 47 ∷ [] in
    let three : closed ++ lang ≡ name ++ (((40 ∷ digits) ++ 47 ∷ []) ++ lang) = more name ((40 ∷ digits) ++ 47 ∷ []) lang closed (closed ++ lang) two refl in
    more name (((40 ∷ digits) ++ 47 ∷ []) ++ lang) (41 ∷ []) (closed ++ lang) ((closed ++ lang) ++ 41 ∷ []) three refl

pub full_behind : (old user local digits lang a b c d e f g h i : List ℕ) → a ≡ old ++ 58 ∷ [] → b ≡ a ++ user → c ≡ b ++ 46 ∷ [] → d ≡ c ++ local → e ≡ d ++ 40 ∷ [] → f ≡ e ++ digits → g ≡ f ++ 47 ∷ []
    → h ≡ g ++ lang → i ≡ h ++ 41 ∷ []
    → i ≡ old ++ ((((codes ":" ++ user) ++ codes ".") ++ local) ++ ((((codes "(" ++ digits) ++ codes "/") ++ lang) ++ codes ")"))
full_behind old user local digits lang a b c d e f g h i a_is b_is c_is d_is e_is f_is g_is h_is i_is =
    let one = more old (58 ∷ []) user a b a_is b_is in
    let two = more old (58 ∷ user) (46 ∷ []) b c one c_is in
    let front : List ℕ = 58 ∷ (user ++ 46 ∷ []) in
    let three = more old front local c d two d_is in
    let four = more old (front ++ local) (40 ∷ []) d e three e_is in
    let five = more old ((front ++ local) ++ 40 ∷ []) digits e f four f_is in
    let six = more old (((front ++ local) ++ 40 ∷ []) ++ digits) (47 ∷ []) f g five g_is in
    let seven = more old ((((front ++ local) ++ 40 ∷ []) ++ digits) ++ 47 ∷ []) lang g h six h_is in
    let eight = more old (((((front ++ local) ++ 40 ∷ []) ++ digits) ++ 47 ∷ []) ++ lang) (41 ∷ []) h i seven i_is in
    eight ∙ ap (λ (t : List ℕ). old ++ t) (behind_name (front ++ local) digits lang)
