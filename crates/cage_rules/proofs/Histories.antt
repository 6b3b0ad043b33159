-- What stands on a frozen set stood there after each beginning of the game.
use Rattle.std.proofs.Common.{◌≡◌, ℕ, ◌<◌, ◌⊎◌, inl, inr, Bool, true, not, List, [], ◌∷◌, ◌++◌, length, refl, ap, sym, ◌∙◌, subst}
use Rattle.std.proofs.lemmas.Bool.{and_parts, and_from}
use Rattle.std.proofs.lemmas.List.{append-nil, append_assoc}
use Rattle.std.proofs.lemmas.List.Folds.{list_all-append}
use Rattle.std.specs.Prelude.{Option}
use Rattle.board_base.specs.Board.{Places, at, is_empty, is_in, is_of}
use Rattle.board_base.specs.Play.{play, castling, goes_en_passant}
use Rattle.board_base.specs.Game.{IsGame, board_after, turn_after, last_move, touches, unmoved}
use Rattle.board_base.specs.Rights.{Rights, holds}
use Rattle.board_base.specs.declared.men.Man.{Man}
use Rattle.board_base.specs.declared.moves.Move.{Move}
use Rattle.board_base.specs.declared.castles.Castle.{Castle}
use Rattle.play_rules.proofs.Legality.{Legality, legality}
use Rattle.play_rules.proofs.Games.{board_after-more, game_before, legal_last, unmoved-before}
use Rattle.play_rules.proofs.Kings.{length-after, within}
use Rattle.play_rules.proofs.Ends.{no_pawn_on_ends}
use Rattle.query_base.specs.Asked.{Asked}
use Rattle.query_base.specs.Reach.{Reaches}
use Rattle.cage_rules.specs.Frozen.{IsFrozen, IsAsArray, IsCaged, is_held_home, may_enter}
use Rattle.cage_rules.specs.Reach.{LeadsTo}
use Rattle.cage_rules.specs.Laws.{Caged, StoodSo}
use Rattle.cage_rules.proofs.Must.{must-tells, must-told}
use Rattle.cage_rules.proofs.Stays.{Stays, StillFrozen, stays, same-man}

-- the moves before others are a game
pub game-begins : (o : List Bool) (before after : List Move) → IsGame o (before ++ after) → IsGame o before
game-begins o before after game b a n e = game b (a ++ after) n (ap (λ (x : List Move). x ++ after) e ∙ append_assoc b (n ∷ a) after)

pub unmoved-begins : (o : List Bool) (before after : List Move) (x : Castle) → unmoved o (before ++ after) x ≡ true → unmoved o before x ≡ true
unmoved-begins o before after x h =
    let parts = and_parts _ _ h in
    and_from _ _ parts.0 (and_parts _ _ (sym (list_all-append (λ m. not (touches m x)) before after) ∙ parts.1)).0

-- what one move more tells of the men on the set
pub record Kept (o : List Bool) (g : List Move) (m : Move) (held : Rights) (set : List Bool) : Type 0 where
  pub stay : (s : ℕ) → is_in set s ≡ true → Stays m (castling (board_after o g) m) (goes_en_passant (board_after o g) m) s
  pub same : (s : ℕ) → is_in set s ≡ true → at (board_after o (g ++ m ∷ [])) s ≡ at (board_after o g) s

kept : (o : List Bool) (g : List Move) (m : Move) (held : Rights) (set : List Bool) → IsGame o (g ++ m ∷ []) → ((x : Castle) → holds held x ≡ true → unmoved o (g ++ m ∷ []) x ≡ true) → StillFrozen (board_after o (g ++ m ∷ [])) held set → Kept o g m held set
kept o g m held set game rights frozen =
    let before : IsGame o g = game_before o g m game in
    let l : Legality (board_after o g) (turn_after g) (unmoved o g) (last_move g) m = legality _ _ _ _ _ (legal_last o g m game) in
    let len : length (board_after o g) ≡ 64 = length-after o g before in
    let f : m.from < 64 = rw (← len) (within (is_of (turn_after g)) (board_after o g) m.from refl l.mover) in
    let after : StillFrozen (play (board_after o g) m) held set = subst (λ (b : Places). StillFrozen b held set) (board_after-more o g m) frozen in
    let stay : (s : ℕ) → is_in set s ≡ true → Stays m (castling (board_after o g) m) (goes_en_passant (board_after o g) m) s =
    λ s member. stays (board_after o g) (turn_after g) (unmoved o g) (last_move g) m held set s len l (no_pawn_on_ends o g before) (λ x has. (unmoved-before o g m x (rights x has)).1) after member in
    record {
      stay = stay;
      same = λ s member. ap (λ (b : Places). at b s) (board_after-more o g m) ∙ same-man (board_after o g) m s len f l.on_board (stay s member);
    }

-- a set stays frozen while its men stay
still : (after before : Places) (held : Rights) (set : List Bool) → ((s : ℕ) → is_in set s ≡ true → at after s ≡ at before s) → StillFrozen after held set → StillFrozen before held set
still after before held set same frozen = record {
  occupied = λ s member. ap is_empty (sym (same s member)) ∙ frozen.occupied s member;
  caged = λ s member. elim (frozen.caged s member) as (λ _. (is_held_home held s ≡ true) ⊎ IsCaged before set s) [
    | inl home ↦ inl home
    | inr caged ↦ inr (λ t must. let here = must-told before s t must in caged t (must-tells after s t here.0 (ap (λ (p : Option Man). may_enter p s t) (same s member) ∙ here.1)))
  ];
}

-- what is known of a beginning of the game
record Begun (o : List Bool) (g before : List Move) (held : Rights) (set : List Bool) : Type 0 where
  frozen : StillFrozen (board_after o before) held set
  same : (s : ℕ) → is_in set s ≡ true → at (board_after o before) s ≡ at (board_after o g) s

begun : (o : List Bool) (held : Rights) (set : List Bool) (after before : List Move) → IsGame o (before ++ after) → ((x : Castle) → holds held x ≡ true → unmoved o (before ++ after) x ≡ true) → StillFrozen (board_after o (before ++ after)) held set → Begun o (before ++ after) before held set
begun o held set [] before game rights frozen = record {
  frozen = subst (λ (g : List Move). StillFrozen (board_after o g) held set) (append-nil before) frozen;
  same = λ s member. ap (λ (g : List Move). at (board_after o g) s) (sym (append-nil before));
}
begun o held set (m ∷ after) before game rights frozen =
    let e : (before ++ m ∷ []) ++ after ≡ before ++ m ∷ after = append_assoc before (m ∷ []) after in
    let game' : IsGame o ((before ++ m ∷ []) ++ after) = subst (IsGame o) (sym e) game in
    let rights' : (x : Castle) → holds held x ≡ true → unmoved o ((before ++ m ∷ []) ++ after) x ≡ true = λ x has. ap (λ (g : List Move). unmoved o g x) e ∙ rights x has in
    let more : Begun o ((before ++ m ∷ []) ++ after) (before ++ m ∷ []) held set =
    begun o held set after (before ++ m ∷ []) game' rights' (subst (λ (g : List Move). StillFrozen (board_after o g) held set) (sym e) frozen) in
    let here : Kept o before m held set = kept o before m held set (game-begins o (before ++ m ∷ []) after game') (λ x has. unmoved-begins o (before ++ m ∷ []) after x (rights' x has)) more.frozen in
    record {
      frozen = still (board_after o (before ++ m ∷ [])) (board_after o before) held set here.same more.frozen;
      same = λ s member. sym (here.same s member) ∙ more.same s member ∙ ap (λ (g : List Move). at (board_after o g) s) e;
    }

whole-frozen : (q : Asked) (set : List Bool) → IsFrozen q set → StillFrozen q.board q.held set
whole-frozen q set frozen = record { occupied = frozen.occupied; caged = frozen.caged }

begun-in : (o : List Bool) (g before after : List Move) (q : Asked) (set : List Bool) → Caged o g q set → g ≡ before ++ after → Begun o (before ++ after) before q.held set
begun-in o g before after q set caged e =
    begun o q.held set after before (subst (IsGame o) e caged.leads.game) (λ x has. ap (λ (h : List Move). unmoved o h x) (sym e) ∙ caged.leads.held x has)
    (subst (λ (h : List Move). StillFrozen (board_after o h) q.held set) e (subst (λ (b : Places). StillFrozen b q.held set) (sym caged.leads.board) (whole-frozen q set caged.frozen)))

pub stood-so : (o : List Bool) (g : List Move) (q : Asked) (set : List Bool) → Caged o g q set → StoodSo o g q set
stood-so o g q set caged before (after, e) s member =
    (begun-in o g before after q set caged e).same s member ∙ ap (λ (h : List Move). at (board_after o h) s) (sym e) ∙ ap (λ (b : Places). at b s) caged.leads.board

-- so the array has it too
pub as-array : (o : List Bool) (g : List Move) (q : Asked) (set : List Bool) → Caged o g q set → IsAsArray o q.board set
as-array o g q set caged s member = sym (stood-so o g q set caged [] (g, refl) s member)

-- the set is frozen after each beginning of the game
pub frozen-begun : (o : List Bool) (g before after : List Move) (q : Asked) (set : List Bool) → Caged o g q set → g ≡ before ++ after → StillFrozen (board_after o before) q.held set
frozen-begun o g before after q set caged e = (begun-in o g before after q set caged e).frozen

-- and each of the game's moves leaves its men
pub kept-in : (o : List Bool) (g before after : List Move) (m : Move) (q : Asked) (set : List Bool) → Caged o g q set → g ≡ before ++ m ∷ after → Kept o before m q.held set
kept-in o g before after m q set caged e =
    let e' : g ≡ (before ++ m ∷ []) ++ after = e ∙ sym (append_assoc before (m ∷ []) after) in
    let game' : IsGame o ((before ++ m ∷ []) ++ after) = subst (IsGame o) e' caged.leads.game in
    kept o before m q.held set (game-begins o (before ++ m ∷ []) after game')
    (λ x has. unmoved-begins o (before ++ m ∷ []) after x (ap (λ (h : List Move). unmoved o h x) (sym e') ∙ caged.leads.held x has))
    (frozen-begun o g (before ++ m ∷ []) after q set caged e')

-- a game that reaches the query leads to it from the array at its odds
pub reaches-leads : (g : List Move) (q : Asked) → Reaches g q → LeadsTo q.odds g q
reaches-leads g q reaches = record { game = reaches.game; board = reaches.board; held = reaches.held }

pub unreached : (o : List Bool) (g : List Move) (q : Asked) (set : List Bool) → IsFrozen q set → (IsAsArray o q.board set → ⊥) → LeadsTo o g q → ⊥
unreached o g q set frozen other leads = other (as-array o g q set (record { leads = leads; frozen = frozen }))
