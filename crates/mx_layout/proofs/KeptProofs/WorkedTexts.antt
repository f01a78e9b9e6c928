-- Worked texts: of a table with one column for its key, of one with two, and of one with four.
use Rattle.std.proofs.Common.{◌≡◌, [], ◌∷◌, map, refl}
use Rattle.std.specs.Prelude.{codes}
use Rattle.mx_layout.specs.Tables.{task, extension, done3}
use Rattle.mx_layout.specs.kept.Texts.{column_names, insert_text, listed, place_text, select_text}

extension_shown : select_text extension ≡ codes "SELECT seq, defect, day, days FROM extension ORDER BY seq"
extension_shown = refl

extension_added : insert_text extension ≡ codes "INSERT INTO extension (seq, defect, day, days) VALUES (?1, ?2, ?3, ?4)"
extension_added = refl

task_shown : select_text task ≡ codes "SELECT seq, line, id, part, retire, first_m, first_c, first_d, rep_m, rep_c, rep_d, tol_m, tol_c, tol_d FROM task ORDER BY seq, line"
task_shown = refl

task_added : insert_text task ≡ codes "INSERT INTO task (seq, line, id, part, retire, first_m, first_c, first_d, rep_m, rep_c, rep_d, tol_m, tol_c, tol_d) VALUES (?1, ?2, ?3, ?4, ?5, ?6, ?7, ?8, ?9, ?10, ?11, ?12, ?13, ?14)"
task_added = refl

done_shown : select_text done3 ≡ codes "SELECT item, task, seq, line, value_m, value_c, value_d, due_m, due_c, due_d, base_m, base_c, base_d FROM done3 ORDER BY item, task, seq, line"
done_shown = refl

done_added : insert_text done3 ≡ codes "INSERT INTO done3 (item, task, seq, line, value_m, value_c, value_d, due_m, due_c, due_d, base_m, base_c, base_d) VALUES (?1, ?2, ?3, ?4, ?5, ?6, ?7, ?8, ?9, ?10, ?11, ?12, ?13)"
done_added = refl

columns : column_names extension ≡ codes "seq" ∷ codes "defect" ∷ codes "day" ∷ codes "days" ∷ []
columns = refl

places : map place_text (1 ∷ 9 ∷ 10 ∷ 14 ∷ []) ≡ codes "?1" ∷ codes "?9" ∷ codes "?10" ∷ codes "?14" ∷ []
places = refl

lists : map listed ([] ∷ (codes "seq" ∷ []) ∷ (codes "seq" ∷ codes "line" ∷ codes "id" ∷ []) ∷ []) ≡ codes "" ∷ codes "seq" ∷ codes "seq, line, id" ∷ []
lists = refl
