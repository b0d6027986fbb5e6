-- Which facts have one proof at most.
use denote.Struct.Props as logic

pub ruleset facts = (logic.props)
