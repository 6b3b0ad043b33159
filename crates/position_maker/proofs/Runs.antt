-- A game that is on its way, and the games that are still to be made.
use Rattle.std.proofs.Common.{◌≡◌, ℕ, suc, ◌+◌, ◌-◌, ◌*◌, ◌<◌, ◌≤◌, ◌==◌, true, List, [], ◌∷◌, ◌++◌, length, refl, ap, sym, ◌∙◌, subst, arith}
use Rattle.std.specs.Prelude.{Some, slice_get, get_or}
use Rattle.std.proofs.lemmas.Bool.{eqb-true}
use Rattle.std.proofs.lemmas.Option.{slice_get_read}
use Rattle.std.specs.List.{filter}
use Rattle.std.specs.Fn.{iterate}
use Rattle.board_base.specs.Board.{no_odds}
use Rattle.board_base.specs.Game.{IsGame, legal_after}
use Rattle.board_base.specs.declared.moves.Move.{Move}
use Rattle.play_rules.specs.States.{Position, StandsFor}
use Rattle.play_rules.proofs.Games.{no_moves}
use Rattle.position_maker.specs.Draws.{drawn, games_of, goes_on, legal_moves, next, place}
use Rattle.play_rules.specs.Listed.{all_moves}
use Rattle.position_maker.specs.Samples.{plies_of, unmoves_along, unmoves_of_all}
use Rattle.position_maker.specs.Counted.{Counts}
use Rattle.position_maker.specs.declared.tallies.Tally.{Tally}
use Rattle.position_maker.proofs.DrawnGames.{step-on, stop-on}

-- what is counted and what the rest of the game adds, seen from its start and from here
pub record Adds (g ms : List Move) (t : Tally) (h ns : List Move) (u : Tally) : Type 0 where
  pub number : iterate next (length ns) u.number ≡ iterate next (length ms) t.number
  pub plies : u.plies + length ns ≡ t.plies + length ms
  pub unmoves : u.unmoves + unmoves_along h ns ≡ t.unmoves + unmoves_along g ms
  pub missing : u.missing ≡ t.missing

pub record OnItsWay (left done : ℕ) (whole : List Move) (state : Position) (old now : Tally) : Type 0 where
  pub g : List Move
  pub game : IsGame no_odds g
  pub stands : StandsFor state no_odds g
  pub adds : Adds [] whole old g (goes_on left now.number g) now
  pub few_plies : now.plies ≤ old.plies + done
  pub few : now.unmoves ≤ old.unmoves + 143360 * done

start-as : (plies : ℕ) (state : Position) (old : Tally) → StandsFor state no_odds [] → OnItsWay plies 0 (goes_on plies old.number []) state old old
start-as plies state old s = record {
  g = [];
  game = no_moves no_odds;
  stands = s;
  adds = record { number = refl; plies = refl; unmoves = refl; missing = refl };
  few_plies = omega arith;
  few = omega arith;
}

minus-none : (n : ℕ) → n ≡ n - 0
minus-none n = omega arith

pub on_start : (plies : ℕ) (state : Position) (old : Tally) → StandsFor state no_odds [] → OnItsWay (plies - 0) 0 (goes_on plies old.number []) state old old
on_start plies state old s = subst (λ (n : ℕ). OnItsWay n 0 (goes_on plies old.number []) state old old) (minus-none plies) (start-as plies state old s)

-- a visit counts one move
pub record Visits (g : List Move) (m : Move) (t u : Tally) : Type 0 where
  pub number : u.number ≡ t.number
  pub plies : u.plies ≡ t.plies + 1
  pub unmoves : u.unmoves ≡ t.unmoves + unmoves_along g (m ∷ [])
  pub missing : u.missing ≡ t.missing

adds-more : (whole h : List Move) (m : Move) (ns : List Move) (old now u : Tally) → Adds [] whole old h (m ∷ ns) now → Visits h m (record now { number = next now.number }) u → Adds [] whole old (h ++ m ∷ []) ns u
adds-more whole h m ns old now u a v =
    let p : u.plies ≡ now.plies + 1 = v.plies in
    let q : now.plies + suc (length ns) ≡ old.plies + length whole = a.plies in
    let s : u.unmoves ≡ now.unmoves + unmoves_along h (m ∷ []) = v.unmoves in
    let t : now.unmoves + unmoves_along h (m ∷ ns) ≡ old.unmoves + unmoves_along [] whole = a.unmoves in
    record {
      number = ap (iterate next (length ns)) v.number ∙ a.number;
      plies = omega arith;
      unmoves = omega arith;
      missing = v.missing ∙ a.missing;
    }

pub on_more : (left below done : ℕ) (whole : List Move) (state after : Position) (old now u : Tally) (m : Move) → left ≡ suc below → (w : OnItsWay left done whole state old now) → drawn (next now.number) (legal_moves w.g) ≡ Some m → IsGame no_odds (w.g ++ m ∷ []) → StandsFor after no_odds (w.g ++ m ∷ []) → Visits w.g m (record now { number = next now.number }) u → u.unmoves ≤ now.unmoves + 143360 → OnItsWay below (done + 1) whole after old u
on_more left below done whole state after old now u m e w d game stands v few =
    let rest : goes_on left now.number w.g ≡ m ∷ goes_on below (next now.number) (w.g ++ m ∷ []) = ap (λ (n : ℕ). goes_on n now.number w.g) e ∙ step-on below now.number w.g m d in
    let first : Adds [] whole old w.g (m ∷ goes_on below (next now.number) (w.g ++ m ∷ [])) now = subst (λ (l : List Move). Adds [] whole old w.g l now) rest w.adds in
    let further = adds-more whole w.g m (goes_on below (next now.number) (w.g ++ m ∷ [])) old now u first v in
    let p : u.plies ≡ now.plies + 1 = v.plies in
    let a = w.few_plies in
    let b = w.few in
    record {
      g = w.g ++ m ∷ [];
      game = game;
      stands = stands;
      adds = subst (λ (x : ℕ). Adds [] whole old (w.g ++ m ∷ []) (goes_on below x (w.g ++ m ∷ [])) u) (sym v.number) further;
      few_plies = omega (arith, p, a);
      few = omega (arith, few, b);
    }

pub counts-all : (whole g : List Move) (old now : Tally) → Adds [] whole old g [] now → Counts [] whole old now
counts-all whole g old now a =
    let p : now.plies + 0 ≡ old.plies + length whole = a.plies in
    let t : now.unmoves + 0 ≡ old.unmoves + unmoves_along [] whole = a.unmoves in
    record { number = a.number; plies = omega arith; unmoves = omega arith; missing = a.missing }

pub on_stop : (left done : ℕ) (whole : List Move) (state : Position) (old now : Tally) (w : OnItsWay left done whole state old now) → legal_moves w.g ≡ [] → Counts [] whole old now
on_stop left done whole state old now w none = counts-all whole w.g old now (subst (λ (l : List Move). Adds [] whole old w.g l now) (stop-on left now.number w.g none) w.adds)

pub on_end : (left done : ℕ) (whole : List Move) (state : Position) (old now : Tally) → left ≡ 0 → OnItsWay left done whole state old now → Counts [] whole old now
on_end left done whole state old now e w = counts-all whole w.g old now (subst (λ (n : ℕ). Adds [] whole old w.g (goes_on n now.number w.g) now) e w.adds)

-- what was counted of all games so far
pub record Made (left done plies : ℕ) (all : List (List Move)) (now : Tally) : Type 0 where
  pub plies_is : now.plies + plies_of (games_of plies left now.number) ≡ plies_of all
  pub unmoves_is : now.unmoves + unmoves_of_all (games_of plies left now.number) ≡ unmoves_of_all all
  pub missing_is : now.missing ≡ 0
  pub few_plies : now.plies ≤ 200 * done
  pub few : now.unmoves ≤ 28672000 * done

pub legal-list : (items g : List Move) → items ≡ filter (legal_after no_odds g) all_moves → items ≡ legal_moves g
unfolding legal_moves
legal-list items g e = e

pub none-left : (items : List Move) (n : ℕ) → n ≡ length items → (n == 0) ≡ true → items ≡ []
none-left [] n e z = refl
none-left (m ∷ items) n e z = let zero_is : n ≡ 0 = eqb-true n 0 z in absurd (omega (arith, e, zero_is))

-- the move that stands at the place drawn
pub draws : (items g : List Move) (x y n i : ℕ) (m : Move) → items ≡ legal_moves g → y ≡ next x → n ≡ length items → i ≡ place y n → i < n → m ≡ get_or items i m → drawn (next x) (legal_moves g) ≡ Some m
draws items g x y n i m e ey en ei within here =
    let same : i ≡ place (next x) (length items) = ei ∙ ap (λ (k : ℕ). place k n) ey ∙ ap (place (next x)) en in
    let own : drawn (next x) items ≡ Some m = ap (slice_get items) (sym same) ∙ slice_get_read items n i m en within here in
    ap (drawn (next x)) (sym e) ∙ own

made_as : (plies n start : ℕ) → Made n 0 plies (games_of plies n start) (record { number = start; plies = 0; unmoves = 0; missing = 0 })
made_as plies n start = record { plies_is = omega arith; unmoves_is = omega arith; missing_is = refl; few_plies = omega arith; few = omega arith }

pub made_none : (plies n start : ℕ) → Made (n - 0) 0 plies (games_of plies n start) (record { number = start; plies = 0; unmoves = 0; missing = 0 })
made_none plies n start = subst (λ (k : ℕ). Made k 0 plies (games_of plies n start) (record { number = start; plies = 0; unmoves = 0; missing = 0 })) (minus-none n) (made_as plies n start)

-- one game more is counted
pub made_more : (left below done plies : ℕ) (all : List (List Move)) (now u : Tally) → left ≡ suc below → plies ≤ 200 → Made left done plies all now → Counts [] (goes_on plies now.number []) now u → u.plies ≤ now.plies + plies → u.unmoves ≤ now.unmoves + 143360 * plies → Made below (done + 1) plies all u
made_more left below done plies all now u e small w c fewer few =
    let g : List Move = goes_on plies now.number [] in
    let x : ℕ = iterate next (length g) now.number in
    let rest : games_of plies left now.number ≡ g ∷ games_of plies below x = ap (λ (n : ℕ). games_of plies n now.number) e in
    let on : games_of plies below u.number ≡ games_of plies below x = ap (games_of plies below) c.number in
    let p1 : now.plies + plies_of (g ∷ games_of plies below x) ≡ plies_of all = ap (λ (gs : List (List Move)). now.plies + plies_of gs) (sym rest) ∙ w.plies_is in
    let p2 : plies_of (g ∷ games_of plies below x) ≡ length g + plies_of (games_of plies below x) = refl in
    let p3 : plies_of (games_of plies below u.number) ≡ plies_of (games_of plies below x) = ap plies_of on in
    let p4 : u.plies ≡ now.plies + length g = c.plies in
    let q1 : now.unmoves + unmoves_of_all (g ∷ games_of plies below x) ≡ unmoves_of_all all = ap (λ (gs : List (List Move)). now.unmoves + unmoves_of_all gs) (sym rest) ∙ w.unmoves_is in
    let q2 : unmoves_of_all (g ∷ games_of plies below x) ≡ unmoves_along [] g + unmoves_of_all (games_of plies below x) = refl in
    let q3 : unmoves_of_all (games_of plies below u.number) ≡ unmoves_of_all (games_of plies below x) = ap unmoves_of_all on in
    let q4 : u.unmoves ≡ now.unmoves + unmoves_along [] g = c.unmoves in
    let a = w.few_plies in
    let b = w.few in
    record {
      plies_is = omega (arith, p1, p2, p3, p4);
      unmoves_is = omega (arith, q1, q2, q3, q4);
      missing_is = c.missing ∙ w.missing_is;
      few_plies = omega (arith, a, fewer, small);
      few = omega (arith, b, few, small);
    }

pub made_all : (left done plies : ℕ) (all : List (List Move)) (now : Tally) → left ≡ 0 → Made left done plies all now → (now.plies ≡ plies_of all) × (now.unmoves ≡ unmoves_of_all all)
made_all left done plies all now e w =
    let p : now.plies + plies_of (games_of plies 0 now.number) ≡ plies_of all = ap (λ (n : ℕ). now.plies + plies_of (games_of plies n now.number)) (sym e) ∙ w.plies_is in
    let q : now.unmoves + unmoves_of_all (games_of plies 0 now.number) ≡ unmoves_of_all all = ap (λ (n : ℕ). now.unmoves + unmoves_of_all (games_of plies n now.number)) (sym e) ∙ w.unmoves_is in
    (omega (arith, p), omega (arith, q))
