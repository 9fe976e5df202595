-- A row of the table: the program's struct as the definitions' record. Assumes nothing.
use Rattle.cel_text.specs.Table.{Row}
use Rattle.parser.specs.declared.row.Row.{Row as Told}

abbrev pub row_told : Told → Row
row_told r =
    record {
      kind = r.kind;
      from = r.from.0;
      to = r.to.0;
      keyfrom = r.keyfrom.0;
      keyto = r.keyto.0;
      parent = r.parent.0;
      children = r.children;
      past = r.past.0;
    }
