-- The names of rules, with what stands behind them.
use Rattle.std.proofs.Common.{◌≡◌, ℕ, true, Bool, List, [], ◌∷◌, ◌++◌, drop, Option, Some, None, refl, sym, ap, ◌∙◌, arith, nat_eq}
use Rattle.std.specs.Prelude.{codes}
use Rattle.std.proofs.lemmas.Bool.{and_parts, and_from, cond_both}
use Rattle.std.proofs.lemmas.Option.{same_Some}
use Rattle.std.proofs.lemmas.Slice.Eq.{bytes_eq-Decides}
use Rattle.std.specs.List.{starts_with}
use Rattle.std.specs.Str.{bytes_eq}
use Rattle.std.specs.Option.{option_map}
use Rattle.board_base.specs.Potentials.{Duals}
use Rattle.board_base.specs.Texts.{◌>>=◌}
use Rattle.board_base.specs.declared.men.Colour.{Colour}
use Rattle.board_base.specs.declared.men.Colour.TheVariants.{White, Black}
use Rattle.query_base.specs.declared.rule_lines.RuleLine.{RuleLine}
use Rattle.query_base.specs.declared.rule_lines.RuleLine.TheVariants.{Kings, Ranks, Check, Rights, Count, Frozen, Caps, Promo}
use Rattle.fen_text.specs.Fen.{turn}
use Rattle.fen_text.specs.Parts.{Free}
use Rattle.fen_text.specs.Spelling.{turn_letter}
use Rattle.fen_text.proofs.OneText.{turn_spelled}
use Rattle.fen_text.proofs.PartLemmas.{followed, free_append, part_more, parted_next}
use Rattle.fen_text.specs.Sets.{is_whole, set_of, set_text}
use Rattle.cert_text.specs.Arguments.{potentials_of, potentials_text}
use Rattle.cert_text.specs.Writable.{are_near, is_rule}
use Rattle.cert_text.specs.NodeLines.{rule_name, caps_of, promo_of, rule_of, set_and_potentials}
use Rattle.fen_text.proofs.Begun.{begun}
use Rattle.cert_text.proofs.PartTexts.{no_part, no_rest}
use Rattle.fen_text.proofs.HexTexts.{set_back, set_free, set_read}
use Rattle.cert_text.proofs.WordTexts.{duals_back, duals_free, duals_read}
use Rattle.board_base.proofs.TextLemmas.{mapped_some}

-- what an option gives, if anything, has the property
abbrev pub Only : {A : Type 0} → (A → Type 0) → Option A → Type 0
Only {A} P o = (a : A) → o ≡ Some a → P a

pub only_none : {A : Type 0} (P : A → Type 0) → Only P None
only_none P a e = absurd cc

-- names stand for their rules

promo_back : (side : Colour) (set : List Bool) → is_whole set ≡ true → promo_of (turn_letter side ∷ 32 ∷ set_text set) ≡ Some (Promo side set)
unfolding promo_of
promo_back White set whole =
    parted_next 32 turn (λ (side : Colour). None) (λ (side : Colour) (rest : List ℕ). option_map (λ (s : List Bool). Promo side s) (set_of rest)) (119 ∷ []) (set_text set) refl
    ∙ ap (option_map (λ (s : List Bool). Promo White s)) (set_back set whole)
promo_back Black set whole =
    parted_next 32 turn (λ (side : Colour). None) (λ (side : Colour) (rest : List ℕ). option_map (λ (s : List Bool). Promo side s) (set_of rest)) (98 ∷ []) (set_text set) refl
    ∙ ap (option_map (λ (s : List Bool). Promo Black s)) (set_back set whole)

arguments_back : (side : Colour) (set : List Bool) (p : Duals) → is_whole set ≡ true → are_near 8 p ≡ true → set_and_potentials side (set_text set ++ 32 ∷ potentials_text p) ≡ Some (Caps side set p)
unfolding set_and_potentials
arguments_back side set p whole near =
    parted_next 32 set_of (λ (s : List Bool). None) (λ (s : List Bool) (rest : List ℕ). option_map (λ (d : Duals). Caps side s d) (potentials_of rest)) (set_text set) (potentials_text p) (set_free 32 set (omega arith))
    ∙ ap (λ (o : Option (List Bool)). o >>= (λ (s : List Bool). option_map (λ (d : Duals). Caps side s d) (potentials_of (potentials_text p)))) (set_back set whole)
    ∙ ap (option_map (λ (d : Duals). Caps side set d)) (duals_back 8 p near)

caps_back : (side : Colour) (set : List Bool) (p : Duals) → is_whole set ≡ true → are_near 8 p ≡ true → caps_of (turn_letter side ∷ 32 ∷ (set_text set ++ 32 ∷ potentials_text p)) ≡ Some (Caps side set p)
unfolding caps_of
caps_back White set p whole near =
    parted_next 32 turn (λ (side : Colour). None) set_and_potentials (119 ∷ []) (set_text set ++ 32 ∷ potentials_text p) refl ∙ arguments_back White set p whole near
caps_back Black set p whole near =
    parted_next 32 turn (λ (side : Colour). None) set_and_potentials (98 ∷ []) (set_text set ++ 32 ∷ potentials_text p) refl ∙ arguments_back Black set p whole near

-- a rule is the one of its name
pub name_back : (r : RuleLine) → is_rule r ≡ true → rule_of (rule_name r) ≡ Some r
name_back Kings known = refl
name_back Ranks known = refl
name_back Check known = refl
name_back Rights known = refl
name_back (Count White) known = refl
name_back (Count Black) known = refl
name_back (Frozen set) known = ap (option_map (λ (s : List Bool). Frozen s)) (set_back set known)
name_back (Caps side set p) known =
    let parts = and_parts (is_whole set) (are_near 8 p) known in
    caps_back side set p parts.0 parts.1
name_back (Promo side set) known = promo_back side set known

-- the name is the one of a rule
pub record IsNameOf (name : List ℕ) (r : RuleLine) : Type 0 where
  pub name_is : name ≡ rule_name r
  pub known : is_rule r ≡ true

named : (name text : List ℕ) (r s : RuleLine) → rule_name r ≡ name → is_rule r ≡ true → bytes_eq text name ≡ true → Some r ≡ Some s → IsNameOf text s
named name text r s is known same e =
    let one : r ≡ s = same_Some r s e in
    record { name_is = (bytes_eq-Decides text name).0 same ∙ sym is ∙ ap rule_name one; known = ap is_rule (sym one) ∙ known }

after_count : (text : List ℕ) (o : Option Colour) → text ≡ codes "count " ++ drop 6 text → turn (drop 6 text) ≡ o → Only (IsNameOf text) (option_map (λ side. Count side) o)
after_count text None whole e r is = absurd cc
after_count text (Some side) whole e r is =
    let one : Count side ≡ r = same_Some _ _ is in
    record { name_is = whole ∙ ap (λ (l : List ℕ). codes "count " ++ l) (turn_spelled (drop 6 text) side e) ∙ ap rule_name one; known = ap is_rule (sym one) }

after_frozen : (text : List ℕ) (o : Option (List Bool)) → text ≡ codes "frozen " ++ drop 7 text → set_of (drop 7 text) ≡ o → Only (IsNameOf text) (option_map (λ set. Frozen set) o)
after_frozen text None whole e r is = absurd cc
after_frozen text (Some set) whole e r is =
    let one : Frozen set ≡ r = same_Some _ _ is in
    let read = set_read (drop 7 text) set e in
    record { name_is = whole ∙ ap (λ (l : List ℕ). codes "frozen " ++ l) read.text_is ∙ ap rule_name one; known = ap is_rule (sym one) ∙ read.whole }

after_promo : (text : List ℕ) → text ≡ codes "promo " ++ drop 6 text → Only (IsNameOf text) (promo_of (drop 6 text))
unfolding promo_of
after_promo text whole r e =
    let f = followed 32 turn (λ (side : Colour). None) (λ (side : Colour) (rest : List ℕ). option_map (λ (s : List Bool). Promo side s) (set_of rest)) (drop 6 text) r (λ x. refl) e in
    let m = mapped_some (λ (s : List Bool). Promo f.value s) (set_of f.rest) r f.goes_on in
    let read = set_read f.rest m.0 m.1 in
    record {
      name_is = whole ∙ ap (λ (l : List ℕ). codes "promo " ++ l) (f.whole ∙ ap (λ (l : List ℕ). l ++ 32 ∷ f.rest) (turn_spelled f.front f.value f.good) ∙ ap (λ (l : List ℕ). turn_letter f.value ∷ 32 ∷ l) read.text_is) ∙ ap rule_name m.2;
      known = ap is_rule (sym m.2) ∙ read.whole;
    }

-- a text is that of a set and potentials
record AreArguments (side : Colour) (text : List ℕ) (r : RuleLine) : Type 0 where
  set : List Bool
  potentials : Duals
  text_is : text ≡ set_text set ++ 32 ∷ potentials_text potentials
  whole : is_whole set ≡ true
  near : are_near 8 potentials ≡ true
  rule_is : Caps side set potentials ≡ r

arguments_read : (side : Colour) (text : List ℕ) → Only (AreArguments side text) (set_and_potentials side text)
unfolding set_and_potentials
arguments_read side text r e =
    let f = followed 32 set_of (λ (s : List Bool). None) (λ (s : List Bool) (rest : List ℕ). option_map (λ (d : Duals). Caps side s d) (potentials_of rest)) text r (λ x. refl) e in
    let m = mapped_some (λ (d : Duals). Caps side f.value d) (potentials_of f.rest) r f.goes_on in
    let first = set_read f.front f.value f.good in
    let second = duals_read 8 f.rest m.0 m.1 in
    record {
      set = f.value;
      potentials = m.0;
      text_is = f.whole ∙ ap (λ (l : List ℕ). l ++ 32 ∷ f.rest) first.text_is ∙ ap (λ (l : List ℕ). set_text f.value ++ 32 ∷ l) second.text_is;
      whole = first.whole;
      near = second.near;
      rule_is = m.2;
    }

after_caps : (text : List ℕ) → text ≡ codes "caps " ++ drop 5 text → Only (IsNameOf text) (caps_of (drop 5 text))
unfolding caps_of
after_caps text whole r e =
    let f = followed 32 turn (λ (side : Colour). None) set_and_potentials (drop 5 text) r (λ x. refl) e in
    let a = arguments_read f.value f.rest r f.goes_on in
    record {
      name_is = whole ∙ ap (λ (l : List ℕ). codes "caps " ++ l) (f.whole ∙ ap (λ (l : List ℕ). l ++ 32 ∷ f.rest) (turn_spelled f.front f.value f.good) ∙ ap (λ (l : List ℕ). turn_letter f.value ∷ 32 ∷ l) a.text_is) ∙ ap rule_name a.rule_is;
      known = ap is_rule (sym a.rule_is) ∙ and_from _ _ a.whole a.near;
    }

-- what is read as a rule is its name
pub name_read : (text : List ℕ) → Only (IsNameOf text) (rule_of text)
name_read text =
    cond_both (bytes_eq text (codes "kings")) _ _ (Only (IsNameOf text)) (λ t r. named (codes "kings") text Kings r refl refl t)
    (λ f. cond_both (bytes_eq text (codes "ranks")) _ _ (Only (IsNameOf text)) (λ t r. named (codes "ranks") text Ranks r refl refl t)
    (λ f. cond_both (bytes_eq text (codes "check")) _ _ (Only (IsNameOf text)) (λ t r. named (codes "check") text Check r refl refl t)
    (λ f. cond_both (bytes_eq text (codes "rights")) _ _ (Only (IsNameOf text)) (λ t r. named (codes "rights") text Rights r refl refl t)
    (λ f. cond_both (starts_with nat_eq text (codes "count ")) _ _ (Only (IsNameOf text)) (λ t. after_count text (turn (drop 6 text)) (begun text (codes "count ") t) refl)
    (λ f. cond_both (starts_with nat_eq text (codes "frozen ")) _ _ (Only (IsNameOf text)) (λ t. after_frozen text (set_of (drop 7 text)) (begun text (codes "frozen ") t) refl)
    (λ f. cond_both (starts_with nat_eq text (codes "caps ")) _ _ (Only (IsNameOf text)) (λ t. after_caps text (begun text (codes "caps ") t))
    (λ f. cond_both (starts_with nat_eq text (codes "promo ")) _ _ (Only (IsNameOf text)) (λ t. after_promo text (begun text (codes "promo ") t))
    (λ f. only_none (IsNameOf text)))))))))

-- no line end stands in a name

side_free : (c : Colour) (text : List ℕ) → Free 10 text → Free 10 (turn_letter c ∷ 32 ∷ text)
side_free White text free = free
side_free Black text free = free

pub name_free : (r : RuleLine) → is_rule r ≡ true → Free 10 (rule_name r)
name_free Kings known = refl
name_free Ranks known = refl
name_free Check known = refl
name_free Rights known = refl
name_free (Count White) known = refl
name_free (Count Black) known = refl
name_free (Frozen set) known = set_free 10 set (omega arith)
name_free (Caps side set p) known =
    let parts = and_parts (is_whole set) (are_near 8 p) known in
    side_free side (set_text set ++ 32 ∷ potentials_text p) (free_append 10 (set_text set) (32 ∷ potentials_text p) (set_free 10 set (omega arith)) (duals_free 8 p parts.1))
name_free (Promo side set) known = side_free side (set_text set) (set_free 10 set (omega arith))

-- the three grammars, part by part

pub promo_short : (text a : List ℕ) → Free 32 a → text ≡ a → promo_of text ≡ None
unfolding promo_of
promo_short text a free whole = no_rest turn (λ (side : Colour) (rest : List ℕ). option_map (λ (s : List Bool). Promo side s) (set_of rest)) text a free whole

pub promo_side : (text a rest : List ℕ) → Free 32 a → text ≡ a ++ 32 ∷ rest → turn a ≡ None → promo_of text ≡ None
unfolding promo_of
promo_side text a rest free whole none = no_part turn (λ (side : Colour) (rest : List ℕ). option_map (λ (s : List Bool). Promo side s) (set_of rest)) text a rest free whole none

pub promo_is : (text a rest : List ℕ) (side : Colour) (o : Option (List Bool)) → Free 32 a → text ≡ a ++ 32 ∷ rest → turn a ≡ Some side → set_of rest ≡ o → promo_of text ≡ option_map (λ (s : List Bool). Promo side s) o
unfolding promo_of
promo_is text a rest side o free whole some e =
    part_more 32 turn (λ (x : Colour). None) (λ (side : Colour) (rest : List ℕ). option_map (λ (s : List Bool). Promo side s) (set_of rest)) text a rest side free whole some ∙ ap (option_map (λ (s : List Bool). Promo side s)) e

pub arguments_short : (side : Colour) (text a : List ℕ) → Free 32 a → text ≡ a → set_and_potentials side text ≡ None
unfolding set_and_potentials
arguments_short side text a free whole = no_rest set_of (λ (s : List Bool) (rest : List ℕ). option_map (λ (d : Duals). Caps side s d) (potentials_of rest)) text a free whole

pub arguments_set : (side : Colour) (text a rest : List ℕ) → Free 32 a → text ≡ a ++ 32 ∷ rest → set_of a ≡ None → set_and_potentials side text ≡ None
unfolding set_and_potentials
arguments_set side text a rest free whole none = no_part set_of (λ (s : List Bool) (rest : List ℕ). option_map (λ (d : Duals). Caps side s d) (potentials_of rest)) text a rest free whole none

pub arguments_are : (side : Colour) (text a rest : List ℕ) (set : List Bool) (o : Option Duals) → Free 32 a → text ≡ a ++ 32 ∷ rest → set_of a ≡ Some set → potentials_of rest ≡ o → set_and_potentials side text ≡ option_map (λ (d : Duals). Caps side set d) o
unfolding set_and_potentials
arguments_are side text a rest set o free whole some e =
    part_more 32 set_of (λ (x : List Bool). None) (λ (s : List Bool) (rest : List ℕ). option_map (λ (d : Duals). Caps side s d) (potentials_of rest)) text a rest set free whole some ∙ ap (option_map (λ (d : Duals). Caps side set d)) e

pub caps_short : (text a : List ℕ) → Free 32 a → text ≡ a → caps_of text ≡ None
unfolding caps_of
caps_short text a free whole = no_rest turn set_and_potentials text a free whole

pub caps_side : (text a rest : List ℕ) → Free 32 a → text ≡ a ++ 32 ∷ rest → turn a ≡ None → caps_of text ≡ None
unfolding caps_of
caps_side text a rest free whole none = no_part turn set_and_potentials text a rest free whole none

pub caps_is : (text a rest : List ℕ) (side : Colour) → Free 32 a → text ≡ a ++ 32 ∷ rest → turn a ≡ Some side → caps_of text ≡ set_and_potentials side rest
unfolding caps_of
caps_is text a rest side free whole some = part_more 32 turn (λ (x : Colour). None) set_and_potentials text a rest side free whole some
