use Rattle.aprs_host.proofs.Common.{ap, sym, Puts-is}
use Rattle.aprs_host.specs.Complaint.{words_of}
use Rattle.aprs_host.specs.declared.complaint.Complaint.{Complaint}
use Rattle.aprs_host.proofs.complaint.put_words.Goals as goal

pub returns-in-CannotOpen : goal.returns-in-CannotOpen
returns-in-CannotOpen g c = Puts-is c.put_two.ensures
    (sym (ap (λ (x : Complaint). words_of x) c.in-CannotOpen.is))

pub returns-in-IsOutput : goal.returns-in-IsOutput
returns-in-IsOutput g c = Puts-is c.put_two-in-IsOutput.ensures
    (sym (ap (λ (x : Complaint). words_of x) c.in-IsOutput.is))

pub returns-in-OtherGap : goal.returns-in-OtherGap
returns-in-OtherGap g c = Puts-is c.put_two-in-OtherGap.ensures
    (sym (ap (λ (x : Complaint). words_of x) c.in-OtherGap.is))

pub returns-in-NotUtf8 : goal.returns-in-NotUtf8
returns-in-NotUtf8 g c = Puts-is c.put.ensures
    (sym (ap (λ (x : Complaint). words_of x) c.in-NotUtf8.is))

pub returns-in-BadCaptureOptions : goal.returns-in-BadCaptureOptions
returns-in-BadCaptureOptions g c = Puts-is c.put-in-BadCaptureOptions.ensures
    (sym (ap (λ (x : Complaint). words_of x) c.in-BadCaptureOptions.is))
