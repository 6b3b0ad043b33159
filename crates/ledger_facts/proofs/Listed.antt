-- What holds of each way by which a pawn may have come, holds of his own.
use Rattle.std.proofs.Common.{◌≡◌, ℕ, ◌<◌, Bool, true, List, [], refl, ap, sym, ◌∙◌}
use Rattle.std.proofs.lemmas.List.{append-nil}
use Rattle.std.specs.Prelude.{Some}
use Rattle.std.specs.List.{Contains}
use Rattle.board_base.specs.Board.{Places, array_of, at, is_a, is_of}
use Rattle.board_base.specs.Game.{board_after}
use Rattle.board_base.specs.declared.men.Colour.{Colour}
use Rattle.board_base.specs.declared.men.Kind.TheVariants.{Pawn}
use Rattle.board_base.specs.declared.moves.Move.{Move}
use Rattle.men_account.specs.Labels.{label_at, labels_after}
use Rattle.men_account.proofs.FilesLeft.{array-inside}
use Rattle.query_base.specs.Asked.{Asked}
use Rattle.cage_rules.specs.Frozen.{IsFrozen}
use Rattle.cage_rules.specs.Laws.{Walled}
use Rattle.cage_rules.specs.Reach.{LeadsTo}
use Rattle.cage_rules.proofs.WalledGames.{caged-walled}
use Rattle.men_fates.specs.Deeds.{way_of}
use Rattle.men_fates.specs.Ways.{is_way, way_end}
use Rattle.men_fates.proofs.Goings.{pawn-ends}
use Rattle.men_fates.proofs.Roads.{way-past}
use Rattle.balance_rule.specs.Costs.{ways_from}
use Rattle.balance_rule.proofs.Listed.{way-listed}

pub way-tested : (q : Asked) (set : List Bool) (c : Colour) (s h : ℕ) (test : List ℕ → Bool) → IsFrozen q set → is_a Pawn (at q.board s) ≡ true → is_of c (at (array_of q.odds) h) ≡ true → ((way : List ℕ) → Contains (ways_from c set h) way → way_end h way ≡ s → test way ≡ true) → (g : List Move) → LeadsTo q.odds g q → label_at (labels_after q.odds g) s ≡ Some h → test (way_of q.odds g h) ≡ true
way-tested q set c s h test frozen pawn home each g leads label =
    let walled : Walled q.odds g set = caged-walled q.odds g q set (record { leads = leads; frozen = frozen }) in
    let inside : h < 64 = array-inside q.odds (is_of c) h refl home in
    let goes : is_way c set h (way_of q.odds g h) ≡ true = way-past q.odds g g [] set c h walled (sym (append-nil g)) home in
    let still : is_a Pawn (at (board_after q.odds g) s) ≡ true = ap (λ (b : Places). is_a Pawn (at b s)) leads.board ∙ pawn in
    each (way_of q.odds g h) (way-listed c set h (way_of q.odds g h) inside goes) (pawn-ends q.odds g leads.game s h label still)
