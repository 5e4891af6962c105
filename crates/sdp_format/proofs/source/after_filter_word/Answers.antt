use Rattle.sdp_format.proofs.source.after_filter_word.Goals as goal

pub returns-in-V4 : goal.returns-in-V4
returns-in-V4 c = rw c.in-V4.is c.after_word.ensures

pub returns-in-V6 : goal.returns-in-V6
returns-in-V6 c = rw c.in-V6.is c.after_word-in-V6.ensures
