-- What bars a retraction keeps it out of the list.
use Rattle.std.proofs.Common.{◌≡◌, ℕ, ◌<◌, Bool, true, false, cond, ◌&&◌, not, length, inl, inr, Option, Some, None, refl, sym, ap, ◌∙◌, arith}
use Rattle.std.proofs.lemmas.Bool.{and_from, and_parts, both_ways, cases_lt, not-true}
use Rattle.std.proofs.lemmas.List.{get_or_past}
use Rattle.general_lemmas.proofs.Ranges.{any-found, any-one}
use Rattle.std.specs.List.{Contains}
use Rattle.board_base.specs.Attacks.{attacks, attacks_from}
use Rattle.board_base.specs.Board.{Places, at, is_of, is_the, opponent}
use Rattle.board_base.specs.Game.{touches}
use Rattle.board_base.specs.Legal.{in_check}
use Rattle.board_base.specs.Play.{all_castles, double_of}
use Rattle.board_base.specs.Rights.{holds}
use Rattle.board_base.specs.declared.castles.Castle.{Castle}
use Rattle.board_base.specs.declared.castles.Castle.TheVariants.{WhiteShort, WhiteLong, BlackShort, BlackLong}
use Rattle.board_base.specs.declared.men.Colour.{Colour}
use Rattle.board_base.specs.declared.men.Colour.TheVariants.{White, Black}
use Rattle.board_base.specs.declared.men.Kind.TheVariants.{King}
use Rattle.board_base.specs.declared.moves.Move.{Move}
use Rattle.board_base.specs.declared.unmoves.Unmove.{Unmove}
use Rattle.board_base.proofs.KindsOfMen.{opponent-twice}
use Rattle.men_account.specs.Account.{accounts_for}
use Rattle.query_base.specs.Asked.{Asked}
use Rattle.unmove_gen.specs.Listed.{before, has_left, is_listed, keeps_held, mover, took_pawn}
use Rattle.unmove_gen.specs.Sane.{is_sane}
use Rattle.unmove_gen.proofs.Members.{length-back}
use Rattle.unmove_gen.proofs.Parts.{clocked, listed-sane, parts}
use Rattle.retraction_bars.proofs.FirstBars.{each_passes}
use Rattle.retraction_bars.specs.Bars.{attacks_a_king, bars, gives_check, is_late, is_left_full}
use Rattle.retraction_bars.specs.declared.bars.Bar.{Bar}
use Rattle.retraction_bars.specs.declared.bars.Bar.TheVariants.{Only, Check, Occupied, Itself, Held, Barred, Account, Clock, Passed, Otherwise}

in_all : (x : Castle) → Contains all_castles x
in_all WhiteShort = (0, omega arith, refl)
in_all WhiteLong = (1, omega arith, refl)
in_all BlackShort = (2, omega arith, refl)
in_all BlackLong = (3, omega arith, refl)

untouched : (q : Asked) (m : Move) (x : Castle) → keeps_held q m ≡ true → (holds q.held x && touches m x) ≡ true → ⊥
untouched q m x h t = both_ways _ (not-true _ (each_passes (λ y. not (holds q.held y && touches m y)) all_castles x h (in_all x))) t

on_board : (board : Places) (c : Colour) (s : ℕ) → length board ≡ 64 → is_of c (at board s) ≡ true → s < 64
on_board board c s len h = elim (cases_lt s 64) [
  | inl below ↦ below
  | inr past ↦ absurd (both_ways _ (ap (is_of c) (get_or_past board s None (omega arith))) h)
]

struck : (board : Places) (c d : Colour) (s k : ℕ) → s < 64 → opponent d ≡ c → is_of c (at board s) ≡ true → attacks_from board s k ≡ true → attacks board k (opponent d) ≡ true
unfolding attacks
struck board c d s k inside e own hits =
    any-found (λ from. is_of (opponent d) (at board from) && attacks_from board from k) 0 64 s (omega arith) (omega arith)
    (and_from _ _ (ap (λ (x : Colour). is_of x (at board s)) e ∙ own) hits)

checked : (board : Places) (c d : Colour) (s : ℕ) → length board ≡ 64 → opponent c ≡ d → opponent d ≡ c → gives_check board c s ≡ true → in_check board d ≡ true
unfolding in_check attacks_a_king
checked board c d s len there back h =
    let own = and_parts _ _ h in
    let found = any-one (λ k. is_the (opponent c) King (at board k) && attacks_from board s k) 0 64 own.1 in
    let both = and_parts _ _ found.passes in
    any-found (λ k. is_the d King (at board k) && attacks board k (opponent d)) 0 64 found.number (omega arith) found.below
    (and_from _ _ (ap (λ (x : Colour). is_the x King (at board found.number)) (sym there) ∙ both.0) (struck board c d s found.number (on_board board c s len own.0) back own.0 both.1))

-- a man who gives check out of turn
unsafe : (q : Asked) (u : Unmove) (s : ℕ) → length q.board ≡ 64 → is_listed q u ≡ true → gives_check (before q u) (mover q) s ≡ true → ⊥
unfolding is_sane
unsafe q u s len h check =
    both_ways _ (not-true _ (and_parts _ _ (listed-sane q u h)).1)
    (checked (before q u) (mover q) (opponent (mover q)) s (length-back q.board u ∙ len) refl (opponent-twice (mover q)) check)

counted : (q : Asked) (u : Unmove) (c : Colour) → is_listed q u ≡ true → accounts_for q.odds (before q u) c ≡ true
unfolding is_sane
counted q u White h = (and_parts _ _ (and_parts _ _ (and_parts _ _ (and_parts _ _ (and_parts _ _ (listed-sane q u h)).0).0).0).0).1
counted q u Black h = (and_parts _ _ (and_parts _ _ (and_parts _ _ (listed-sane q u h)).0).0).1

left_full : (o : Option Move) (board : Places) → has_left o board ≡ true → is_left_full o board ≡ true → ⊥
left_full None board h f = both_ways false refl f
left_full (Some d) board h f = both_ways _ (not-true _ f) h

left : (ep took : Bool) (o : Option Move) (board : Places) → cond ep (took && has_left (cond ep o None) board) true ≡ true → is_left_full (cond ep o None) board ≡ true → ⊥
left true took o board h f = left_full o board (and_parts _ _ h).1 f
left false took o board h f = both_ways false refl f

late : (q : Asked) (u : Unmove) → is_listed q u ≡ true → is_late q u ≡ true → ⊥
late q u h f = left u.ep (took_pawn u) (double_of u.mv (mover q)) (before q u) (and_parts _ _ (parts q u h).marked).1 f

pub out : (q : Asked) (u : Unmove) (b : Bar) → length q.board ≡ 64 → is_listed q u ≡ true → bars b q u ≡ true → ⊥
unfolding bars
out q u Only len h b = both_ways _ (not-true _ b) (parts q u h).only
out q u (Check s) len h b = unsafe q u s len h (and_parts _ _ b).1
out q u Occupied len h b = both_ways _ (not-true _ b) (parts q u h).origin
out q u Itself len h b = unsafe q u u.mv.from len h b
out q u (Held x) len h b = untouched q u.mv x (parts q u h).held b
out q u Barred len h b = both_ways _ (not-true _ (parts q u h).barred) b
out q u (Account c) len h b = both_ways _ (not-true _ b) (counted q u c h)
out q u Clock len h b = both_ways _ (not-true _ b) (clocked q u h).1
out q u Passed len h b = late q u h b
out q u Otherwise len h b = both_ways _ (not-true _ b) h
