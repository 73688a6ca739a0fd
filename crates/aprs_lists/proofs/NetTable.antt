-- What is found of copies and answers in order is the table of a net.
use Rattle.aprs_lists.proofs.Common.{◌≡◌, ◌++◌, ◌∷◌, [], ℕ, Bool, List, None, Option, Some, ap, arith, flat_map, map, refl, subst, BookValue, Ordered}
use Rattle.std.proofs.Common.{◌<◌, true, false}
use Rattle.std.specs.Ordering.{on}
use Rattle.aprs_ax25.specs.Callsign.{Call}
use Rattle.aprs_transmissions.proofs.Lists.{from_map}
use Rattle.aprs_transmissions.specs.BookValue.{IsSoundBook}
use Rattle.aprs_transmissions.specs.Gap.{IsGap, millis_of}
use Rattle.aprs_transmissions.specs.Order.{IsUpTo}
use Rattle.aprs_lists.proofs.PlainFirst.{plain_is_first}
use Rattle.aprs_lists.proofs.SentRuns.{plain_is_sent}
use Rattle.aprs_lists.specs.Answers.{Reply, reply_cmp, reply_of}
use Rattle.aprs_lists.specs.Copies.{Copy, copy_cmp, copy_of}
use Rattle.aprs_lists.specs.Runs.{AreInTime, Sent, runs_of}
use Rattle.aprs_lists.specs.declared.net.answers.Answer.{Answer}
use Rattle.aprs_lists.specs.declared.net.copies.MessageCopy.{MessageCopy}
use Rattle.aprs_summary.specs.MessageRows.{spelled_call}
use Rattle.aprs_lists.specs.Lines.{tabbed_line}
use Rattle.aprs_lists.specs.Net.{IsNetTable}
use Rattle.aprs_lists.specs.Told.{AreTold, IsAnswerBy, IsAnswerTo, answer_found, found_by, found_line, least_reply, message_columns, message_number, told_found, told_message_line}
use Rattle.aprs_lists.specs.Traffic.{AreGiven, GivesCopy, GivesNetReply}

ordered_map : {X Y : Type 0} (f : X → Y) (Q : Y → Y → Type 0) (xs : List X)
    → Ordered (λ x y. Q (f x) (f y)) xs → Ordered Q (map f xs)
ordered_map f Q [] o = tt
ordered_map {X} {Y} f Q (x ∷ xs) o = (
  λ y m. let s = from_map f y xs m in subst (λ (z : Y). Q (f x) z) s.2 (o.0 s.0 s.1),
  ordered_map f Q xs o.1,
)

lines_of_map : {X Y : Type 0} (f : X → Y) (line : Y → List ℕ) (xs : List X)
    → flat_map (λ x. line (f x)) xs ≡ flat_map line (map f xs)
lines_of_map f line [] = refl
lines_of_map f line (x ∷ xs) = ap (λ l. line (f x) ++ l) (lines_of_map f line xs)

module _ (gap : ℕ) (replies : List Reply) (o : Ordered (IsUpTo reply_cmp) replies) where
  found_is : (r : Sent) (is_reply : Bool) (number : Option (List ℕ)) (call : Option Call)
      → IsAnswerBy gap replies r is_reply number call (found_by gap replies r is_reply number call)
  found_is r is_reply (Some number) (Some call) =
      plain_is_first replies (least_reply gap r number call is_reply) r.until o refl
  found_is r is_reply (Some number) None = refl
  found_is r is_reply None call = refl

  answer_is : (r : Sent) (is_reply : Bool)
      → IsAnswerTo gap replies r is_reply (answer_found gap replies r is_reply)
  answer_is r is_reply =
      found_is r is_reply (message_number r.message) (spelled_call r.message.addressee)

  all_told : (rs : List Sent) → AreTold gap replies rs (map (told_found gap replies) rs)
  all_told [] = tt
  all_told (r ∷ rs) = (
    record {
      by_ack = answer_found gap replies r false;
      by_reply = answer_found gap replies r true;
      is_ack = answer_is r false;
      is_reply = answer_is r true;
      told = refl;
    },
    all_told rs,
  )

some_millis : (gap : ℕ) → IsGap gap → 0 < millis_of gap
some_millis gap g = omega (arith, g.0)

in_time : (book : BookValue) (copies : List Copy) → IsSoundBook book
    → AreGiven GivesCopy book.rows copies → AreInTime copies
in_time book copies sound given c m =
    let g = (given c).0 m in
    omega (arith, (sound.sound.each g.0 g.1).in_order, g.2.first, g.2.last)

pub net_table : (book : BookValue) (message_gap : ℕ) (copies : List MessageCopy) (answers : List Answer)
    → IsSoundBook book → IsGap message_gap
    → AreGiven GivesCopy book.rows (map copy_of copies)
    → AreGiven GivesNetReply book.rows (map reply_of answers)
    → Ordered (IsUpTo (on copy_of copy_cmp)) copies → Ordered (IsUpTo (on reply_of reply_cmp)) answers
    → IsNetTable message_gap book (tabbed_line message_columns
    ++ flat_map (found_line (millis_of book.gap) (map reply_of answers))
    (runs_of (millis_of message_gap) (map copy_of copies)))
net_table book message_gap copies answers sound range cs rs co ro =
    let gap = millis_of book.gap in
    let replies = map reply_of answers in
    let sent = runs_of (millis_of message_gap) (map copy_of copies) in
    record {
      told = map (told_found gap replies) sent;
      are_messages = record {
        copies = map copy_of copies;
        replies = replies;
        sent = sent;
        are_copies = cs;
        are_replies = rs;
        are_sent =
            plain_is_sent (millis_of message_gap) (map copy_of copies) (some_millis message_gap range)
            (in_time book (map copy_of copies) sound cs)
            (ordered_map copy_of (IsUpTo copy_cmp) copies co);
        are_told = all_told gap replies (ordered_map reply_of (IsUpTo reply_cmp) answers ro) sent;
      };
      text_is =
          ap (λ l. tabbed_line message_columns ++ l)
          (lines_of_map (told_found gap replies) told_message_line sent);
    }
