use Rattle.std.proofs.Common.{ℕ, ◌≡◌, ◌+◌, ◌<◌, List, [], ◌∷◌, ◌++◌, length, get_or, take, refl, sym, ap, ◌∙◌}
use Rattle.std.specs.List.{flat_map}
use Rattle.std.specs.Prelude.{codes}
use Rattle.std.proofs.lemmas.List.{flat_map_more, take_all, take_more}
use Rattle.front_door.specs.Usage.{row_of}
use Rattle.retro_top.specs.declared.rows.Row.{Row}
use Rattle.front_door.proofs.help.rows.Goals as goal

-- the head of the usage
abbrev head : List ℕ
head = codes "usage:" ++ 10 ∷ []

one-more : (all : List Row) (k : ℕ) (d : Row) (old new row : List ℕ) → k < length all → old ≡ head ++ flat_map row_of (take k all) → row ≡ row_of (get_or all k d) → new ≡ old ++ row → new ≡ head ++ flat_map row_of (take (k + 1) all)
one-more all k d old new row below o r n =
    n ∙ ap (λ (l : List ℕ). l ++ row) o ∙ ap (λ (l : List ℕ). (head ++ flat_map row_of (take k all)) ++ l) r
    ∙ flat_map_more row_of head (take k all) (get_or all k d) ∙ ap (λ (shown : List Row). head ++ flat_map row_of shown) (sym (take_more all k d below))

pub loop-command-preserved : goal.loop-command-preserved
loop-command-preserved c =
    one-more c.args.commands.now c.loop-command.command-index _ _ _ _ c.loop-command-test.true c.loop-command.invariant (c.as_str.ensures.value ∙ c.in_ok-row.ensures) c.in_ok-push_str.ensures.bytes

pub returns : goal.returns
returns c =
    record {
      rows = c.args.commands.now;
      names_are = refl;
      lines_are = refl;
      text_is = c.loop-command.invariant ∙ ap (λ (shown : List Row). head ++ flat_map row_of shown) (take_all c.loop-command.command-index c.args.commands.now c.loop-command-test.false);
    }
