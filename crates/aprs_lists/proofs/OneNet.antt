-- The rows of a book have one table of the messages of a net.
use Rattle.aprs_lists.proofs.Common.{◌≡◌, ◌∙◌, ℕ, Bool, List, None, Option, Some, [], ◌∷◌, ap₂, arith, refl, subst, sym, Row, SameMembers, ◌∈◌}
use Rattle.std.proofs.Common.{◌≤◌, true, false}
use Rattle.aprs_ax25.specs.Callsign.{Call}
use Rattle.aprs_transmissions.specs.Row.{last_moment}
use Rattle.aprs_lists.proofs.OneSent.{first_once, one_sent}
use Rattle.aprs_lists.specs.Answers.{Reply}
use Rattle.aprs_lists.specs.Copies.{Copy}
use Rattle.aprs_lists.specs.Runs.{AreInTime, Sent}
use Rattle.aprs_summary.specs.MessageRows.{spelled_call}
use Rattle.aprs_lists.specs.Net.{AreNetMessages}
use Rattle.aprs_lists.specs.Told.{AreTold, IsAnswerBy, IsToldRun, Told, asked_by, message_number, sent_told}
use Rattle.aprs_lists.specs.Traffic.{AreGiven, GivesCopy, GivesNetReply}

same_given : {A : Type 0} (P : Row → A → Type 0) (rows : List Row) (xs ys : List A)
    → AreGiven P rows xs → AreGiven P rows ys → SameMembers xs ys
same_given P rows xs ys h k a = (λ m. (k a).1 ((h a).0 m), λ m. (h a).1 ((k a).0 m))

module _ (gap : ℕ) (R S : List Reply) (same : SameMembers R S) where
  one_answer : (r : Sent) (is_reply : Bool) (number : Option (List ℕ)) (call : Option Call)
      (x y : Option Reply) → IsAnswerBy gap R r is_reply number call x
      → IsAnswerBy gap S r is_reply number call y → x ≡ y
  one_answer r is_reply (Some number) (Some call) x y h k =
      first_once R S same (asked_by r number call is_reply) _ r.until x y h k
  one_answer r is_reply (Some number) None x y h k = h ∙ sym k
  one_answer r is_reply None call x y h k = h ∙ sym k

  one_told : (r : Sent) (t u : Told) → IsToldRun gap R r t → IsToldRun gap S r u → t ≡ u
  one_told r t u h k =
      let number = message_number r.message in
      let call = spelled_call r.message.addressee in
      h.told ∙ (ap₂ (sent_told r)
      (one_answer r false number call h.by_ack k.by_ack h.is_ack k.is_ack)
      (one_answer r true number call h.by_reply k.by_reply h.is_reply k.is_reply) ∙ sym k.told)

  all_once : (rs : List Sent) (ts us : List Told) → AreTold gap R rs ts → AreTold gap S rs us → ts ≡ us
  all_once [] [] [] h k = refl
  all_once [] [] (u ∷ us) h k = absurd k
  all_once [] (t ∷ ts) us h k = absurd h
  all_once (r ∷ rs) [] us h k = absurd h
  all_once (r ∷ rs) (t ∷ ts) [] h k = absurd k
  all_once (r ∷ rs) (t ∷ ts) (u ∷ us) h k =
      ap₂ (λ (x : Told) (xs : List Told). x ∷ xs) (one_told r t u h.0 k.0) (all_once rs ts us h.1 k.1)

in_time : (rows : List Row) (copies : List Copy) → ((x : Row) → x ∈ rows → x.first ≤ last_moment x)
    → AreGiven GivesCopy rows copies → AreInTime copies
in_time rows copies o given c m =
    let g = (given c).0 m in omega (arith, o g.0 g.1, g.2.first, g.2.last)

pub one_net : (gap message_gap : ℕ) (rows : List Row)
    → ((x : Row) → x ∈ rows → x.first ≤ last_moment x) → (t u : List Told)
    → AreNetMessages gap message_gap rows t → AreNetMessages gap message_gap rows u → t ≡ u
one_net gap message_gap rows o t u h k =
    let copies = same_given GivesCopy rows h.copies k.copies h.are_copies k.are_copies in
    let replies = same_given GivesNetReply rows h.replies k.replies h.are_replies k.are_replies in
    let sent = one_sent message_gap h.copies k.copies copies (in_time rows h.copies o h.are_copies)
    h.sent k.sent h.are_sent k.are_sent in
    all_once gap h.replies k.replies replies h.sent t u h.are_told
    (subst (λ (rs : List Sent). AreTold gap k.replies rs u) (sym sent) k.are_told)
