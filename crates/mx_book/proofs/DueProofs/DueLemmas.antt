-- The numbers of a limit are small.
use Rattle.std.proofs.Common.{rules, ◌≡◌, ◌≤◌, ℕ, true, ◌&&◌, not, ◌||◌, Option, Some, None, IfSome}
use Rattle.std.specs.Option.{option_map_or}
use Rattle.mx_base.specs.declared.amounts.Limit.{Limit}
use Rattle.mx_book.specs.commands.Programme.{is_limited, has_dimension, limit_shape, tolerance_shape, is_done_once, task_shape}
use Rattle.mx_book.specs.declared.commands.programme.Task.{Task}
use Rattle.mx_book.proofs.CommandsProofs.ShapeLemmas.{and_first, and_second}

limited_small : (most : ℕ) (number : Option ℕ) → is_limited most number ≡ true → IfSome number (λ n. n ≤ most)
limited_small most None h = search rules
limited_small most (Some n) h = search rules

-- what a limit of its shape has in each dimension
pub limit_small : (l : Limit) → limit_shape l ≡ true
    → IfSome l.minutes (λ n. n ≤ 6000000) × IfSome l.cycles (λ n. n ≤ 1000000) × IfSome l.days (λ n. n ≤ 36500)
limit_small l h =
    let some = and_second (has_dimension l) (is_limited 6000000 l.minutes && (is_limited 1000000 l.cycles && is_limited 36500 l.days)) h in
    let rest = and_second (is_limited 6000000 l.minutes) (is_limited 1000000 l.cycles && is_limited 36500 l.days) some in (
      limited_small 6000000 l.minutes (and_first (is_limited 6000000 l.minutes) _ some),
      limited_small 1000000 l.cycles (and_first (is_limited 1000000 l.cycles) _ rest),
      limited_small 36500 l.days (and_second (is_limited 1000000 l.cycles) (is_limited 36500 l.days) rest),
    )

repeat_shape : (o : Option Limit) → option_map_or limit_shape o true ≡ true → IfSome o (λ l. limit_shape l ≡ true)
repeat_shape None h = search rules
repeat_shape (Some l) h = h

-- the limits of a task of its shape have theirs
pub task_limits : (t : Task) → task_shape t ≡ true → (limit_shape t.first ≡ true) × IfSome t.repeat (λ l. limit_shape l ≡ true)
task_limits t h =
    let later = tolerance_shape t.tolerance && (not t.retire || is_done_once t) in
    let rest = and_second (limit_shape t.first) (option_map_or limit_shape t.repeat true && later) h in
    (and_first (limit_shape t.first) (option_map_or limit_shape t.repeat true && later) h, repeat_shape t.repeat (and_first (option_map_or limit_shape t.repeat true) later rest))
