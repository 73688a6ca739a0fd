-- What a search among answers in order chooses. No public clause cites this module.
use Rattle.std.specs.Prelude.{ℕ, Bool, ◌&&◌, if◌then◌else◌, List, [], ◌∷◌, Option, None, Some}
use Rattle.std.specs.Ordering.{is_eq, is_lt}
use Rattle.aprs_lists.specs.Answers.{asked_cmp, is_before, reply_cmp, reply_of}
use Rattle.aprs_lists.specs.declared.net.answers.Answer.{Answer}

-- Whether an answer comes before the least that counts.
abbrev pub is_early : Answer → Answer → Bool
is_early least x = is_lt (reply_cmp (reply_of x) (reply_of least))

-- Whether an answer is for what the least is for, and was heard before `until`.
abbrev pub is_timely : Answer → Option ℕ → Answer → Bool
is_timely least until x =
    is_eq (asked_cmp (reply_of x).asked (reply_of least).asked) && is_before until x.moment

-- The first of the answers, if it is for what the least is for, and was heard before `until`.
abbrev pub chosen : Answer → Option ℕ → List Answer → Option Answer
chosen least until [] = None
chosen least until (x ∷ xs) = if is_timely least until x then Some x else None
