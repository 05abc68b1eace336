use Rattle.std.proofs.Common.{refl}
use Rattle.cat_model.specs.Kv.{kv_delete}
use Rattle.kv_table.proofs.table.KvTable.remove.Goals as goal

pub returns-clause-ok : goal.returns-clause-ok
unfolding kv_delete
returns-clause-ok c =
    rw (← c.self.view_is)
    (record {
      rows = c.remove.ensures.rows;
      tombs = λ test floor. refl;
      floor = refl;
      before = λ i. record { rows = c.remove.ensures.before i; tombs = c.self.inside.tombs.before.tombs; floor = c.self.inside.tombs.before.floor };
    })
