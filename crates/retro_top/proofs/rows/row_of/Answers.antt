use Rattle.std.proofs.Common.{◌≡◌, List, ℕ, Option, Some, None, IfSome, subst}
use Rattle.std.specs.List.{Contains}
use Rattle.retro_top.specs.Names.{IsReadBy}
use Rattle.retro_top.specs.Rows.{facts, table}
use Rattle.retro_top.specs.declared.rows.Row.{Row}
use Rattle.retro_top.proofs.Table.{table-read}
use Rattle.retro_top.proofs.rows.row_of.Goals as goal

reads : (found : Option Row) (name : List ℕ) → IfSome found (λ row. row.name.now ≡ name) → IfSome found (λ row. Contains table (facts row)) → IfSome found (λ row. IsReadBy row.input name)
reads (Some row) name named held = subst (IsReadBy row.input) named (table-read (facts row) held)
reads None name named held = held

pub returns-clause-reading : goal.returns-clause-reading
returns-clause-reading c = reads c.look_up.result c.args.name.now c.look_up.ensures.named c.look_up.ensures.held
