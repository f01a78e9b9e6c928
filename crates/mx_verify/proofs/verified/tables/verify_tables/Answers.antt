use Rattle.mx_verify.proofs.VerifiedProofs.TableLemmas.{none_damaged, tables_back, tables_put}
use Rattle.mx_verify.proofs.verified.tables.verify_tables.Goals as goal

pub returns-in-Ok : goal.returns-in-Ok
returns-in-Ok c = record {
  exact = λ book is are. c.verify_rows.ensures.exact book is (tables_put c.args.rows c.put_in_order.new.rows book is c.in-Ok.ensures are);
  sound = λ e. let found = c.verify_rows.ensures.sound e in (found.0, found.1, tables_back c.args.rows c.put_in_order.new.rows found.0 c.in-Ok.ensures found.2);
  damaged = λ kind e. (c.put_in_order.new.rows, c.in-Ok.ensures, c.verify_rows.ensures.damaged kind e);
  undamaged = none_damaged c.args.rows c.put_in_order.new.rows c.verify_rows.result c.in-Ok.ensures c.verify_rows.ensures.undamaged;
}
