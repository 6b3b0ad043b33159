-- What follows from refuted suppositions of where a man began, what became of him, and how many captures were made.
use Rattle.std.proofs.Common.{◌≡◌, ℕ, ◌<◌, ◌≤◌, inl, inr, Bool, true, false, List, ap, sym, ◌∙◌, arith}
use Rattle.std.proofs.lemmas.Bool.{cases_Bool, cases_lt, false_from_ne_true}
use Rattle.std.specs.Prelude.{Some}
use Rattle.board_base.specs.Board.{Places, array_of, at, is_a, is_in, is_of, opponent}
use Rattle.board_base.specs.declared.men.Colour.{Colour}
use Rattle.board_base.specs.declared.men.Kind.TheVariants.{Pawn}
use Rattle.board_base.specs.declared.moves.Move.{Move}
use Rattle.query_base.specs.Asked.{Asked}
use Rattle.men_account.specs.Labels.{label_at, labels_after}
use Rattle.cage_rules.specs.Laws.{IsGone}
use Rattle.cage_rules.specs.Reach.{LeadsTo}
use Rattle.men_fates.specs.Deeds.{strikes, way_of}
use Rattle.men_fates.specs.Ways.{is_straight}
use Rattle.men_fates.proofs.Blows.{fallen-gone}
use Rattle.balance_rule.proofs.TrueHomes.{fate, missing, standing}
use Rattle.ledger_facts.specs.Lines.{AreOthersRefuted, BeganOn, FellToPawn, HasCaptured, KeptFile}
use Rattle.ledger_facts.specs.Refuted.{IsRuledOut}
use Rattle.ledger_facts.specs.Supposed.{IsSupposed, captures, is_last, was_struck}
use Rattle.ledger_facts.specs.declared.suppositions.Squares.{Squares}
use Rattle.ledger_facts.specs.declared.suppositions.Supposition.{Supposition}
use Rattle.ledger_facts.specs.declared.suppositions.Supposition.TheVariants.{Began, Went, Stands, Gone, AtMost, AtLeast}
use Rattle.ledger_facts.proofs.Losing.{struck-any, struck-found}
use Rattle.ledger_facts.proofs.Sound.{refuted}

never-so : (x : Supposition) (q : Asked) → IsRuledOut x q → (g : List Move) → LeadsTo q.odds g q → IsSupposed x q.odds g → ⊥
never-so x q it g leads is = refuted x q it.0 it.1 it.2 g leads is

pub began-on : (q : Asked) (s : ℕ) (homes : List Bool) → AreOthersRefuted q s homes → (g : List Move) → LeadsTo q.odds g q → BeganOn q.odds g s homes
began-on q s homes others g leads h label = elim (cases_Bool (is_in homes h)) [
  | inl member ↦ member
  | inr out ↦ let it = others h out in absurd (never-so (Began s it.0) q it.2 g leads (h, label, it.1))
]

went-so : (q : Asked) (s : ℕ) (straight : Bool) → IsRuledOut (Went s straight) q → is_a Pawn (at q.board s) ≡ true → (g : List Move) → LeadsTo q.odds g q → (h : ℕ) → label_at (labels_after q.odds g) s ≡ Some h → is_straight h (way_of q.odds g h) ≡ straight → ⊥
went-so q s straight it pawn g leads h label went = never-so (Went s straight) q it g leads (h, label, ap (λ (b : Places). is_a Pawn (at b s)) leads.board ∙ pawn, went)

pub has-captured : (q : Asked) (s : ℕ) → IsRuledOut (Went s true) q → is_a Pawn (at q.board s) ≡ true → (g : List Move) → LeadsTo q.odds g q → HasCaptured q.odds g s
has-captured q s it pawn g leads h label = false_from_ne_true _ (λ went. went-so q s true it pawn g leads h label went)

pub kept-file : (q : Asked) (s : ℕ) → IsRuledOut (Went s false) q → is_a Pawn (at q.board s) ≡ true → (g : List Move) → LeadsTo q.odds g q → KeptFile q.odds g s
kept-file q s it pawn g leads h label = elim (cases_Bool (is_straight h (way_of q.odds g h))) [
  | inl straight ↦ straight
  | inr aside ↦ absurd (went-so q s false it pawn g leads h label aside)
]

pub more-than : (q : Asked) (c : Colour) (squares : Squares) (n : ℕ) → IsRuledOut (AtMost c squares n) q → (g : List Move) → LeadsTo q.odds g q → n < captures q.odds g c squares
more-than q c squares n it g leads = elim (cases_lt n (captures q.odds g c squares)) [
  | inl more ↦ more
  | inr few ↦ let at_most : captures q.odds g c squares ≤ n = omega arith in absurd (never-so (AtMost c squares n) q it g leads at_most)
]

pub less-than : (q : Asked) (c : Colour) (squares : Squares) (n : ℕ) → IsRuledOut (AtLeast c squares n) q → (g : List Move) → LeadsTo q.odds g q → captures q.odds g c squares < n
less-than q c squares n it g leads = elim (cases_lt (captures q.odds g c squares) n) [
  | inl less ↦ less
  | inr many ↦ let at_least : n ≤ captures q.odds g c squares = omega arith in absurd (never-so (AtLeast c squares n) q it g leads at_least)
]

module _ (q : Asked) (c : Colour) (h : ℕ) (home : is_of c (at (array_of q.odds) h) ≡ true) (g : List Move) (leads : LeadsTo q.odds g q) where
  no-stand : (promoted : Bool) → IsRuledOut (Stands h promoted) q → (s : ℕ) → label_at (labels_after q.odds g) s ≡ Some h → is_last c h (way_of q.odds g h) ≡ promoted → ⊥
  no-stand promoted it s label became = never-so (Stands h promoted) q it g leads (record { side = c; home = home; square = s; label = label; became = became })

  no-loss : (promoted struck : Bool) → IsRuledOut (Gone h promoted struck) q → IsGone q.odds g h → is_last c h (way_of q.odds g h) ≡ promoted → was_struck q.odds g c h ≡ struck → ⊥
  no-loss promoted struck it lost became fell = never-so (Gone h promoted struck) q it g leads (record { side = c; home = home; gone = lost; became = became; fell = fell })

  pub gone-so : IsRuledOut (Stands h true) q → IsRuledOut (Stands h false) q → IsGone q.odds g h
  gone-so up down s label = elim (cases_Bool (is_last c h (way_of q.odds g h))) [
    | inl last ↦ no-stand true up s label last
    | inr short ↦ no-stand false down s label short
  ]

  pub struck-so : IsRuledOut (Stands h true) q → IsRuledOut (Stands h false) q → IsRuledOut (Gone h true false) q → IsRuledOut (Gone h false false) q → FellToPawn q.odds g c h
  struck-so up down later sooner = elim (cases_Bool (was_struck q.odds g c h)) [
    | inl fell ↦ struck-found (strikes q.odds g (opponent c)) h fell
    | inr none ↦ elim (cases_Bool (is_last c h (way_of q.odds g h))) [
      | inl last ↦ absurd (no-loss true false later (gone-so up down) last none)
      | inr short ↦ absurd (no-loss false false sooner (gone-so up down) short none)
    ]
  ]

  pub unstruck-so : IsRuledOut (Gone h true true) q → IsRuledOut (Gone h false true) q → FellToPawn q.odds g c h → ⊥
  unstruck-so later sooner taken =
      let fell : was_struck q.odds g c h ≡ true = struck-any (strikes q.odds g (opponent c)) h taken.0 taken.1 taken.2 in
      let lost : IsGone q.odds g h = λ s label. fallen-gone q.odds g (opponent c) taken.0 leads.game taken.1 s (label ∙ ap Some (sym taken.2)) in
      elim (cases_Bool (is_last c h (way_of q.odds g h))) [
        | inl last ↦ no-loss true true later lost last fell
        | inr short ↦ no-loss false true sooner lost short fell
      ]

  -- he can't have been promoted, or not, where each fate with that is refuted
  no-fate : (promoted : Bool) → IsRuledOut (Stands h promoted) q → IsRuledOut (Gone h promoted true) q → IsRuledOut (Gone h promoted false) q → is_last c h (way_of q.odds g h) ≡ promoted → ⊥
  no-fate promoted up struck unstruck became = elim (fate q.odds g h leads.game) [
    | standing s place label ↦ no-stand promoted up s label became
    | missing none lost ↦ elim (cases_Bool (was_struck q.odds g c h)) [
      | inl fell ↦ no-loss promoted true struck lost became fell
      | inr not_so ↦ no-loss promoted false unstruck lost became not_so
    ]
  ]

  pub never-promoted : IsRuledOut (Stands h true) q → IsRuledOut (Gone h true true) q → IsRuledOut (Gone h true false) q → is_last c h (way_of q.odds g h) ≡ false
  never-promoted up struck unstruck = false_from_ne_true _ (λ last. no-fate true up struck unstruck last)

  pub was-promoted : IsRuledOut (Stands h false) q → IsRuledOut (Gone h false true) q → IsRuledOut (Gone h false false) q → is_last c h (way_of q.odds g h) ≡ true
  was-promoted up struck unstruck = elim (cases_Bool (is_last c h (way_of q.odds g h))) [
    | inl last ↦ last
    | inr short ↦ absurd (no-fate false up struck unstruck short)
  ]
