use Rattle.std.proofs.Common.{ℕ, ◌≡◌, true, List, ◌++◌, ap, subst, sym, ◌∙◌}
use Rattle.std.specs.List.{Contains}
use Rattle.std.specs.Prelude.{string_bytes}
use Rattle.front_door.specs.Usage.{HasRows, IsUsage}
use Rattle.retro_top.proofs.Table.{commands-named, named-commands, names}
use Rattle.front_door.proofs.help.usage.Goals as goal

usage-of : (text old further : List ℕ) → HasRows old names true → text ≡ old ++ further → IsUsage text
usage-of text old further rows e =
    record {
      rows = rows.rows;
      further = further;
      commands_are = λ name. (λ h. named-commands name (subst (λ (shown : List (List ℕ)). Contains shown name) rows.names_are h), λ h. subst (λ (shown : List (List ℕ)). Contains shown name) (sym rows.names_are) (commands-named name h));
      lines_are = rows.lines_are;
      text_is = e ∙ ap (λ (l : List ℕ). l ++ further) rows.text_is;
    }

pub returns : goal.returns
returns c =
    let rows : HasRows (string_bytes c.in_ok-text.text) names true = c.in_ok-text.ensures in
    usage-of _ _ _ rows c.in_ok-push_str.ensures.bytes
