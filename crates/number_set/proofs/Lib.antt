mod MemberLaws
mod SumLaws
mod WordLaws
